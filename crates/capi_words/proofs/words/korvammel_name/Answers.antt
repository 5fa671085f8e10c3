-- `korvammel_name` meets its contract: by whether the numbers have a word.
use Rattle.std.proofs.Common.{◌≡◌, ℕ, suc, ◌≤◌, List, [], ◌∷◌, length, take, refl, sym, ap, ◌∙◌, arith}
use Rattle.names.proofs.Names.{fits_word}
use Rattle.names.specs.Name.{name_of, padded}
use Rattle.names.specs.declared.name.Name.{Name}
use Rattle.fields.proofs.Again.{has_word}
use Rattle.fields.specs.Claims.{HasWord}
use Rattle.fields.specs.Find.{word_for, found}
use Rattle.answer.specs.Left.{left}
use Rattle.capi_words.specs.Words.{name_call}
use Rattle.capi_words.proofs.words.korvammel_name.Goals as goal

-- the first eight bytes of a name hold it whole
first-eight : (t : List ℕ) → length t ≤ 8 → take 8 (padded 16 t) ≡ padded 8 t
first-eight [] h = refl
first-eight (a ∷ []) h = refl
first-eight (a ∷ b ∷ []) h = refl
first-eight (a ∷ b ∷ c ∷ []) h = refl
first-eight (a ∷ b ∷ c ∷ d ∷ []) h = refl
first-eight (a ∷ b ∷ c ∷ d ∷ e ∷ []) h = refl
first-eight (a ∷ b ∷ c ∷ d ∷ e ∷ f ∷ []) h = refl
first-eight (a ∷ b ∷ c ∷ d ∷ e ∷ f ∷ g ∷ []) h = refl
first-eight (a ∷ b ∷ c ∷ d ∷ e ∷ f ∷ g ∷ i ∷ []) h = refl
first-eight (a ∷ b ∷ c ∷ d ∷ e ∷ f ∷ g ∷ i ∷ j ∷ ts) h = let z : suc (suc (suc (suc (suc (suc (suc (suc (suc (length ts))))))))) ≤ 8 = h in absurd (omega arith)

pub returns : goal.returns
unfolding name_call HasWord
returns c =
    let e = c.find.ensures ∙ ap word_for c.numbers_in.ensures in
    let g = c.in-Some in
    let i = g.found.instruction in
    let h = fits_word i g.found.word ((has_word _ g.found.word i).0 (sym e ∙ ap found g.is)).1 in
    let bytes = c.copy_from_slice.ensures.after ∙ ap (λ (n : Name). take 8 n.bytes) c.name_of-spelled.ensures ∙ first-eight (name_of i) h in
    rw (← e, g.is, c.name_of-spelled.ensures) (ap (left (length (name_of i))) bytes)
