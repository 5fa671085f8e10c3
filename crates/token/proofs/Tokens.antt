-- What the token from a place on, and the place behind a mark, say of the tokens of a line and of places in it.
use Prim.Native.Nat.{ℕ, ◌+◌, ◌<◌, ◌≤◌}
use mathlib.Core.Bool.{Bool, true, false, cond}
use mathlib.Core.List.{List}
use mathlib.Core.Option.{none, some}
use mathlib.Core.Path.{◌≡◌, refl, ap, ◌∙◌}
use native.Mathlib.Omega.{arith}
use borrow.Author.Tests.{le-leb, lt-leb, leb-true, leb-false, eq-eqb, ne_eqb, eqb-true, eqb-false}
use lib.Dec.{eqb, leb}
use lib.ListN.{length, drop, get_or}
use Rattle.token.proofs.Runs.{skipped, behind-blanks, none_left, a-mark, a_word, run_fits}
use Rattle.token.specs.Token.{past, leading_blanks, leading_word, tokens}
use Rattle.token.specs.Scan.{token_from, past_token, place_past, beginning_with, TokenAdvances, WholeWord, place_of, PlaceAdvances}
use Rattle.std.specs.Prelude as code
use Rattle.std.specs.Prelude.{Some, None}
use Rattle.token.specs.declared.token.Token.{Token}
use Rattle.token.specs.declared.token.Token.TheVariants.{End, Word, Mark}

module _ (line : List ℕ) (at s : ℕ) (e : s ≡ at + leading_blanks (drop at line)) where
  pub from_end : length line ≤ s → End ≡ token_from line at
  unfolding token_from
  from_end h = rw (← e, le-leb (length line) s h)

  pub from-mark : (stop : ℕ) → s < length line → stop ≡ s + length (leading_word (drop s line)) → stop ≡ s → Mark (get_or line s 0) (s + 1) ≡ token_from line at
  unfolding token_from
  from-mark stop h q z = rw (← e, lt-leb (length line) s h, eq-eqb (length (leading_word (drop s line))) 0 (omega arith))

  pub from-word : (stop : ℕ) → s < length line → stop ≡ s + length (leading_word (drop s line)) → (stop ≡ s → ⊥) → Word s stop ≡ token_from line at
  unfolding token_from
  from-word stop h q z =
      rw (← e, lt-leb (length line) s h, ne_eqb (length (leading_word (drop s line))) 0 (λ n. z (omega arith))) (ap (λ x. Word s x) q)

abbrev Says : List ℕ → ℕ → Token → Type 0
Says line at r = (tokens (drop at line) ≡ beginning_with line r) × (TokenAdvances at (length line) r × WholeWord line at r)

no_more : (s m : ℕ) → s + m ≡ s → m ≡ 0
no_more s m h = omega arith

positive : (s m : ℕ) → (m ≡ 0 → ⊥) → s < s + m
positive s m n = omega arith

says-by : (line : List ℕ) (at s : ℕ) (b d : Bool) → s ≡ at + leading_blanks (drop at line) → leb (length line) s ≡ b → eqb (length (leading_word (drop s line))) 0 ≡ d → Says line at (cond b End (cond d (Mark (get_or line s 0) (s + 1)) (Word s (s + length (leading_word (drop s line))))))
says-by line at s true d e h k = (skipped line at s e ∙ none_left line s (leb-true _ _ h), (omega arith, omega arith))
says-by line at s false true e h k =
    let i = leb-false _ _ h in
    (skipped line at s e ∙ a-mark line s i (behind-blanks line at s e i) (eqb-true _ _ k), ((omega arith, omega arith), omega arith))
says-by line at s false false e h k =
    let m = length (leading_word (drop s line)) in
    let i = leb-false _ _ h in
    let n : m ≡ 0 → ⊥ = eqb-false m 0 k in
    (skipped line at s e ∙ a_word line s (s + m) i (behind-blanks line at s e i) refl (λ z. n (no_more s m z)), ((omega arith, positive s m n, run_fits line s (omega arith)), (e, refl)))

pub token-read : (line : List ℕ) (at : ℕ) (r : Token) → r ≡ token_from line at → Says line at r
unfolding token_from
token-read line at r e = rw e (says-by line at (at + leading_blanks (drop at line)) _ _ refl refl refl)

past_by : (c : ℕ) (line : List ℕ) (at : ℕ) (t : Token) → Says line at t → (place_of line (past_token c t) ≡ past c (tokens (drop at line))) × PlaceAdvances at (length line) (past_token c t)
past_by c line at End h = (rw h.0, omega arith)
past_by c line at (Word start stop) h = (rw h.0, omega arith)
past_by c line at (Mark d next) h = (rw h.0 (this (eqb d c)), that (eqb d c))
  where
    this : (b : Bool) → place_of line (cond b (Some next) None) ≡ cond b (some (tokens (drop next line))) none
    this true = refl
    this false = refl

    that : (b : Bool) → PlaceAdvances at (length line) (cond b (Some next) None)
    that true = h.1.0
    that false = omega arith

pub place_read : (c : ℕ) (line : List ℕ) (at : ℕ) (r : code.Option ℕ) → r ≡ place_past c line at → (place_of line r ≡ past c (tokens (drop at line))) × PlaceAdvances at (length line) r
unfolding place_past
place_read c line at r e = rw e (past_by c line at (token_from line at) (token-read line at (token_from line at) refl))
