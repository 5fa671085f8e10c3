-- Laws of the parts of lists laid end to end, over any sizes.
use Prim.Native.Nat.{ℕ, zero, suc, ◌+◌, ◌*◌, ◌≤◌, ◌<◌}
use mathlib.Core.Path.{◌≡◌, refl, sym, ap, ◌∙◌}
use mathlib.Core.List.{List, [], ◌∷◌, ◌++◌}
use mathlib.Core.Logic.{⊎_elim}
use native.Mathlib.Omega.{arith}
use native.Mathlib.Nat.{le_of_eq}
use lib.ListN.{length, get_or, take, drop, length-drop, get_or-append}
use lib.Seq.{take_all, take-add, drop_at, take-append-le, drop-append-le, take-suc, take-take, drop-drop, get_or-drop, get_or_at}
use Rattle.image_layout.specs.Join.{concat_below, total}
use Rattle.image_layout.proofs.Tests.{at-or-below}
use Rattle.image_layout.proofs.Join.{length-concat_below, length-even, total-same, total-le}

-- a part of a part
pub cut-take : {A : Type 0} (p a b : ℕ) (m : List A) → p + a ≤ b → take a (drop p (take b m)) ≡ take a (drop p m)
cut-take zero a b m h = take-take a b m (omega arith)
cut-take (suc p) a zero m h = absurd (omega arith)
cut-take (suc p) a (suc b) [] h = refl
cut-take (suc p) a (suc b) (x ∷ xs) h = cut-take p a b xs (omega arith)

pub concat_below-same : {A : Type 0} (n : ℕ) (f g : ℕ → List A) → ((i : ℕ) → i < n → f i ≡ g i) → concat_below n f ≡ concat_below n g
unfolding concat_below
concat_below-same zero f g h = refl
concat_below-same (suc n) f g h =
    ap (λ z. z ++ f n) (concat_below-same n f g (λ i l. h i (omega arith))) ∙ ap (λ z. concat_below n g ++ z) (h n (omega arith))

piece-last : {A : Type 0} (n : ℕ) (f : ℕ → List A) (g : ℕ → ℕ) → ((i : ℕ) → i < suc n → length (f i) ≡ g i) → take (g n) (drop (total n g) (concat_below n f ++ f n)) ≡ f n
piece-last n f g h =
    rw (drop_at (concat_below n f) (f n) (total n g) (length-concat_below n f g (λ i k. h i (omega arith)))) (take_all (g n) (f n) (le_of_eq (h n (omega arith))))

piece-front : {A : Type 0} (n q : ℕ) (f : ℕ → List A) (g : ℕ → ℕ) → ((i : ℕ) → i < suc n → length (f i) ≡ g i) → q < n → take (g q) (drop (total q g) (concat_below n f ++ f n)) ≡ take (g q) (drop (total q g) (concat_below n f))
unfolding total
piece-front n q f g h l =
    let e : length (concat_below n f) ≡ total n g = length-concat_below n f g (λ i k. h i (omega arith)) in
    let t : total q g + g q ≤ total n g = total-le (suc q) n g (omega arith) in
    let a : total q g ≤ length (concat_below n f) = omega arith in
    let b : g q ≤ length (drop (total q g) (concat_below n f)) = rw (length-drop (total q g) (concat_below n f)) (omega arith) in
    rw (drop-append-le (total q g) (concat_below n f) (f n) a) (take-append-le (g q) (drop (total q g) (concat_below n f)) (f n) b)

-- piece q of n
pub piece : {A : Type 0} (n q : ℕ) (f : ℕ → List A) (g : ℕ → ℕ) → ((i : ℕ) → i < n → length (f i) ≡ g i) → q < n → take (g q) (drop (total q g) (concat_below n f)) ≡ f q
unfolding concat_below
piece zero q f g h l = absurd (omega arith)
piece (suc n) q f g h l =
    ⊎_elim (λ e. rw e (piece-last n f g h)) (λ b. piece-front n q f g h b ∙ piece n q f g (λ i k. h i (omega arith)) b) (at-or-below q n l)

-- all the pieces of a list are the list
pub pieces : {A : Type 0} (n : ℕ) (g : ℕ → ℕ) (l : List A) → concat_below n (λ q. take (g q) (drop (total q g) l)) ≡ take (total n g) l
unfolding concat_below total
pieces zero g l = refl
pieces (suc n) g l = ap (λ z. z ++ take (g n) (drop (total n g) l)) (pieces n g l) ∙ sym (take-add (total n g) (g n) l)

-- the same for pieces of one size
pub piece-even : {A : Type 0} (n q s : ℕ) (f : ℕ → List A) → ((i : ℕ) → i < n → length (f i) ≡ s) → q < n → take s (drop (s * q) (concat_below n f)) ≡ f q
piece-even n q s f h l = ap (λ z. take s (drop z (concat_below n f))) (sym (total-same q s)) ∙ piece n q f (λ _. s) h l

pub pieces-even : {A : Type 0} (n s p : ℕ) (l : List A) → concat_below n (λ q. take s (drop (p + s * q) l)) ≡ take (s * n) (drop p l)
pieces-even n s p l =
    concat_below-same n (λ q. take s (drop (p + s * q) l)) (λ q. take s (drop (total q (λ _. s)) (drop p l)))
    (λ q _. ap (take s) (sym (drop-drop (s * q) p l) ∙ ap (λ z. drop z (drop p l)) (sym (total-same q s))))
    ∙ (pieces n (λ _. s) (drop p l) ∙ ap (λ z. take z (drop p l)) (total-same n s))

-- single values
pub concat_below-read : {A : Type 0} (d : A) (n p : ℕ) (l : List A) → p + n ≤ length l → concat_below n (λ i. get_or l (p + i) d ∷ []) ≡ take n (drop p l)
unfolding concat_below
concat_below-read d zero p l h = refl
concat_below-read d (suc n) p l h =
    let t : n < length (drop p l) = rw (length-drop p l) (omega arith) in
    rw (take-suc (drop p l) n d t, get_or-drop p l n d) (ap (λ z. z ++ (get_or l (p + n) d ∷ [])) (concat_below-read d n p l (omega arith)))

pub read-concat_below : {A : Type 0} (d : A) (n k : ℕ) (f : ℕ → A) → k < n → get_or (concat_below n (λ i. f i ∷ [])) k d ≡ f k
unfolding concat_below
read-concat_below d zero k f h = absurd (omega arith)
read-concat_below d (suc n) k f h =
    let e : length (concat_below n (λ i. f i ∷ [])) ≡ n = length-even n 1 (λ i. f i ∷ []) (λ i _. refl) ∙ omega arith in
    ⊎_elim (λ q. rw q (get_or_at (concat_below n (λ i. f i ∷ [])) (f n) [] d n e))
    (λ b. get_or-append (concat_below n (λ i. f i ∷ [])) (f n ∷ []) d k (omega arith) ∙ read-concat_below d n k f b)
    (at-or-below k n h)
