-- The format of a word, by its upper bits: no two formats share a word.
use Rattle.std.proofs.Common.{◌≡◌, ℕ, arith, eq-eqb, ne_eqb}
use Rattle.word_layout.specs.Layout.{bits}
use Rattle.isa.specs.Read.{Formats, by_format}

module _ {A : Type 0} (f : ℕ → Formats A) (w : ℕ) where
  pub is-R : bits w 31 30 ≡ 0b00 → by_format f w ≡ (f w).r
  is-R p = rw (eq-eqb _ 0b00 p)

  pub is-I : bits w 31 29 ≡ 0b010 → by_format f w ≡ (f w).i
  is-I p = rw (ne_eqb (bits w 31 30) 0b00 (λ e. omega arith), eq-eqb _ 0b010 p)

  pub is-Movei : bits w 31 27 ≡ 0b01100 → by_format f w ≡ (f w).movei
  is-Movei p = rw (ne_eqb (bits w 31 30) 0b00 (λ e. omega arith), ne_eqb (bits w 31 29) 0b010 (λ e. omega arith), eq-eqb _ 0b01100 p)

  pub is-J : bits w 31 27 ≡ 0b01110 → by_format f w ≡ (f w).j
  is-J p = rw (ne_eqb (bits w 31 30) 0b00 (λ e. omega arith), ne_eqb (bits w 31 29) 0b010 (λ e. omega arith), p)

  pub is-C : bits w 31 27 ≡ 0b01111 → by_format f w ≡ (f w).c
  is-C p = rw (ne_eqb (bits w 31 30) 0b00 (λ e. omega arith), ne_eqb (bits w 31 29) 0b010 (λ e. omega arith), p)

  pub is-M : bits w 31 30 ≡ 0b10 → by_format f w ≡ (f w).m
  is-M p =
      rw (
        ne_eqb (bits w 31 29) 0b010 (λ e. omega arith),
        ne_eqb (bits w 31 27) 0b01100 (λ e. omega arith),
        ne_eqb (bits w 31 27) 0b01110 (λ e. omega arith),
        ne_eqb (bits w 31 27) 0b01111 (λ e. omega arith),
        p,
      )

  pub is_none : (bits w 31 30 ≡ 0b00 → ⊥) → (bits w 31 29 ≡ 0b010 → ⊥) → (bits w 31 27 ≡ 0b01100 → ⊥) → (bits w 31 27 ≡ 0b01110 → ⊥) →
      (bits w 31 27 ≡ 0b01111 → ⊥) → (bits w 31 30 ≡ 0b10 → ⊥) → by_format f w ≡ (f w).other
  is_none r i v j c m = rw (ne_eqb _ _ r, ne_eqb _ _ i, ne_eqb _ _ v, ne_eqb _ _ j, ne_eqb _ _ c, ne_eqb _ _ m)
