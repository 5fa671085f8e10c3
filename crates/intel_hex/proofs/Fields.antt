-- The fields of a record, by their places among the digits.
use Prim.Native.Nat.{ℕ, ◌+◌, ◌-◌, ◌*◌, ◌%◌, ◌≤◌, ◌<◌}
use mathlib.Core.Bool.{Bool, true, false, ◌&&◌, not, cond}
use mathlib.Core.List.{List, [], ◌∷◌}
use mathlib.Core.Option.{Option, none, some}
use mathlib.Core.Path.{◌≡◌, refl, sym, ap, ◌∙◌}
use native.Mathlib.Omega.{arith}
use borrow.Author.Tests.{eq-eqb, ne_eqb, eqb-true}
use lib.Dec.{eqb}
use lib.ListN.{length, get_or, take, drop}
use lib.Seq.{length-take-le, take_all}
use Rattle.intel_hex.specs.Digits.{pair, pairs, total}
use Rattle.intel_hex.specs.Record.{no_record, data_record, upper_record, end_record, typed, fields_of, bytes_record, colon_record, record_of, without_cr}
use Rattle.intel_hex.specs.Scan.{heading, heading_at}
use Rattle.intel_hex.specs.Types.{Heading, Data, Base, End}
use Rattle.std.specs.Prelude.{Some, None}
use Rattle.std.specs.Prelude as R
use Rattle.intel_hex.proofs.Pairs.{Written, written, written-length, written-get}

pub fields-short : (bs : List ℕ) → (length bs ≡ get_or bs 0 0 + 5 → ⊥) → fields_of bs ≡ no_record
fields-short [] h = refl
fields-short (n ∷ []) h = refl
fields-short (n ∷ a ∷ []) h = refl
fields-short (n ∷ a ∷ b ∷ []) h = refl
fields-short (n ∷ a ∷ b ∷ t ∷ r) h = rw (ne_eqb (length r) (n + 1) (λ e. h (omega arith)))

fields-long : (bs : List ℕ) (n : ℕ) → n ≡ get_or bs 0 0 → length bs ≡ n + 5 →
    fields_of bs ≡ cond (eqb (total bs % 256) 0) (typed (get_or bs 3 0) (256 * get_or bs 1 0 + get_or bs 2 0) n (take n (drop 4 bs))) no_record
fields-long [] n e h = absurd (omega arith)
fields-long (m ∷ []) n e h = absurd (omega arith)
fields-long (m ∷ a ∷ []) n e h = absurd (omega arith)
fields-long (m ∷ a ∷ b ∷ []) n e h = absurd (omega arith)
fields-long (m ∷ a ∷ b ∷ t ∷ r) n e h = rw (e, eq-eqb (length r) (m + 1) (omega arith))

and_right : (a b : Bool) → (a && b) ≡ true → b ≡ true
and_right true b e = e
and_right false b e = let z : ◌≡◌ {A = ℕ} 0 1 = cc in absurd (omega arith)

typed-heading : (type address n u : ℕ) (ds : List ℕ) → length ds ≡ n → (n ≡ 2 → u ≡ 256 * get_or ds 0 0 + get_or ds 1 0) →
    heading_at type address n u ≡ heading (typed type address n ds)
unfolding heading_at
typed-heading type address n u ds l h =
    go (eqb type 0 && not (eqb n 0)) (eqb type 1 && eqb address 0 && eqb n 0) (eqb type 4 && eqb address 0 && eqb n 2) (λ e. h (eqb-true n 2 (and_right (eqb type 4 && eqb address 0) (eqb n 2) e)))
  where
    go : (p q r : Bool) → (r ≡ true → u ≡ 256 * get_or ds 0 0 + get_or ds 1 0) →
        cond p (Some (Data address n)) (cond q (Some End) (cond r (Some (Base u)) None))
        ≡ heading (cond p (data_record address ds) (cond q end_record (cond r (upper_record (256 * get_or ds 0 0 + get_or ds 1 0)) no_record)))
    go true q r f = ap {B = R.Option Heading} (λ m. Some (Data address m)) (sym l)
    go false true r f = refl
    go false false true f = ap {B = R.Option Heading} (λ m. Some (Base m)) (f refl)
    go false false false f = refl

module _ (digits bs : List ℕ) (w : Written digits bs) (long : 10 ≤ length digits) (n : ℕ) (first : n ≡ pair (get_or digits 0 0) (get_or digits 1 0)) where
  size : length digits ≡ 2 * length bs
  size = written-length w

  count : n ≡ get_or bs 0 0
  count = let s = size in first ∙ sym (written-get w 0 (omega arith))

  pub wrong-length : (length digits ≡ 10 + 2 * n → ⊥) → None ≡ heading (fields_of bs)
  wrong-length h = let s = size in let c = count in sym (ap heading (fields-short bs (λ e. h (omega arith))))

  pub wrong-sum : length digits ≡ 10 + 2 * n → (total bs % 256 ≡ 0 → ⊥) → None ≡ heading (fields_of bs)
  wrong-sum h z =
      let s = size in
      let c = count in
      let g : fields_of bs ≡ no_record = fields-long bs n c (omega arith) ∙ rw (ne_eqb (total bs % 256) 0 z) in
      sym (ap heading g)

  pub right : length digits ≡ 10 + 2 * n → total bs % 256 ≡ 0 → (a b t u : ℕ) →
      a ≡ pair (get_or digits 2 0) (get_or digits 3 0) → b ≡ pair (get_or digits 4 0) (get_or digits 5 0) → t ≡ pair (get_or digits 6 0) (get_or digits 7 0) →
      (n ≡ 2 → u ≡ 256 * pair (get_or digits 8 0) (get_or digits 9 0) + pair (get_or digits 10 0) (get_or digits 11 0)) →
      heading_at t (256 * a + b) n u ≡ heading (fields_of bs)
  right h z a b t u ea eb et eu =
      let s = size in
      let c = count in
      let fa : a ≡ get_or bs 1 0 = ea ∙ sym (written-get w 1 (omega arith)) in
      let fb : b ≡ get_or bs 2 0 = eb ∙ sym (written-get w 2 (omega arith)) in
      let ft : t ≡ get_or bs 3 0 = et ∙ sym (written-get w 3 (omega arith)) in
      let g : fields_of bs ≡ typed (get_or bs 3 0) (256 * get_or bs 1 0 + get_or bs 2 0) n (take n (drop 4 bs)) = fields-long bs n c (omega arith) ∙ rw (eq-eqb (total bs % 256) 0 z) in
      rw (fa, fb, ft) (typed-heading (get_or bs 3 0) (256 * get_or bs 1 0 + get_or bs 2 0) n u (take n (drop 4 bs)) (length-data bs n (omega arith))
      (λ e. eu e ∙ rw (sym (written-get w 4 (omega arith)), sym (written-get w 5 (omega arith))) (data-two bs n e (omega arith)))
      ∙ ap heading (sym g))
    where
      length-data : (bs : List ℕ) (n : ℕ) → length bs ≡ n + 5 → length (take n (drop 4 bs)) ≡ n
      length-data (x ∷ a ∷ b ∷ t ∷ r) n h = length-take-le n r (omega arith)
      length-data [] n h = absurd (omega arith)
      length-data (x ∷ []) n h = absurd (omega arith)
      length-data (x ∷ a ∷ []) n h = absurd (omega arith)
      length-data (x ∷ a ∷ b ∷ []) n h = absurd (omega arith)

      data-two : (bs : List ℕ) (n : ℕ) → n ≡ 2 → length bs ≡ n + 5 → 256 * get_or bs 4 0 + get_or bs 5 0 ≡ 256 * get_or (take n (drop 4 bs)) 0 0 + get_or (take n (drop 4 bs)) 1 0
      data-two (x ∷ a ∷ b ∷ t ∷ p ∷ q ∷ r) n e h = rw e
      data-two (x ∷ a ∷ b ∷ t ∷ p ∷ []) n e h = absurd (omega arith)
      data-two (x ∷ a ∷ b ∷ t ∷ []) n e h = absurd (omega arith)
      data-two [] n e h = absurd (omega arith)
      data-two (x ∷ []) n e h = absurd (omega arith)
      data-two (x ∷ a ∷ []) n e h = absurd (omega arith)
      data-two (x ∷ a ∷ b ∷ []) n e h = absurd (omega arith)

-- too few digits for a record
pub few : (digits : List ℕ) → length digits < 10 → None ≡ heading (bytes_record (pairs digits))
few digits h = go (pairs digits) refl
  where
    go : (p : Option (List ℕ)) → pairs digits ≡ p → None ≡ heading (bytes_record p)
    go none q = refl
    go (some bs) q = let l = written-length (written digits bs q) in sym (ap heading (fields-short bs (λ e. omega arith)))

-- a line's text: what begins with a colon, and any other
pub no-colon : (line text : List ℕ) → text ≡ without_cr line → (get_or text 0 0 ≡ 58 → ⊥) → None ≡ heading (record_of line)
unfolding record_of
no-colon line text e other = rw (← e) (go text other)
  where
    go : (t : List ℕ) → (get_or t 0 0 ≡ 58 → ⊥) → None ≡ heading (colon_record t)
    go [] h = refl
    go (c ∷ t) h = rw (ne_eqb c 58 h)

pub no_text : (line text : List ℕ) → text ≡ without_cr line → length text < 1 → None ≡ heading (record_of line)
unfolding record_of
no_text line text e short = rw (← e) (go text short)
  where
    go : (t : List ℕ) → length t < 1 → None ≡ heading (colon_record t)
    go [] h = refl
    go (c ∷ t) h = absurd (omega arith)

pub colon : (line text : List ℕ) → text ≡ without_cr line → 1 ≤ length text → get_or text 0 0 ≡ 58 → heading (bytes_record (pairs (take (length text - 1) (drop 1 text)))) ≡ heading (record_of line)
unfolding record_of
colon line text e long is = rw (← e) (go text long is)
  where
    go : (t : List ℕ) → 1 ≤ length t → get_or t 0 0 ≡ 58 → heading (bytes_record (pairs (take (length t - 1) (drop 1 t)))) ≡ heading (colon_record t)
    go [] l h = absurd (omega arith)
    go (c ∷ t) l h = rw (eq-eqb c 58 h, take_all (length (c ∷ t) - 1) t (omega arith))
