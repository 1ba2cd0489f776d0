-- As many words as slots, class by class.
use Rattle.std.proofs.Common.{◌≡◌, ℕ, List, [], ◌∷◌, ◌++◌, length, Some, ⊎_elim, sym, ◌∙◌, ap}
use Rattle.std.specs.Prelude.{slice_get}
use Rattle.base.specs.Names.{slice_get-push}
use Rattle.lang_meaning.specs.declared.program.ClassRow.{ClassRow}
use Rattle.mid_start.specs.declared.slots.SlotWords.{SlotWords}

pub counted_more :
    (classes : List ClassRow) (laid : List (List SlotWords)) (at : ℕ) (one : ClassRow) (slots : List SlotWords) (more : List (List SlotWords))
    → slice_get classes at ≡ Some one → length laid ≡ at → more ≡ laid ++ slots ∷ [] → length slots ≡ length one.slots
    → ((class : ℕ) (row : ClassRow) (ss : List SlotWords) → slice_get classes class ≡ Some row → slice_get laid class ≡ Some ss → length ss ≡ length row.slots)
    → (class : ℕ) (row : ClassRow) (ss : List SlotWords) → slice_get classes class ≡ Some row → slice_get more class ≡ Some ss → length ss ≡ length row.slots
counted_more classes laid at one slots more here many pushed count each class row ss found there =
    ⊎_elim
    (λ before. each class row ss found before)
    (λ last.
    let place : class ≡ at = last.0 ∙ many in
    let row_same : Some row ≡ Some one = sym found ∙ ap (slice_get classes) place ∙ here in
    let same : row ≡ one = cc in
    ap (λ xs. length xs) (sym last.1) ∙ count ∙ ap (λ (r : ClassRow). length r.slots) (sym same))
    (slice_get-push laid slots class ss (ap (λ xs. slice_get xs class) (sym pushed) ∙ there))
