-- What is told of values and of slots, behind what is there.
use Rattle.std.specs.Prelude.{◌≡◌, ℕ, List, [], ◌∷◌, ◌++◌, Option, codes}
use Rattle.lang_meaning.specs.declared.program.ClassRow.{ClassRow}
use Rattle.lang_meaning.specs.Values.{Value}
use Rattle.lang_meaning.specs.Objects.{Object}
use Rattle.lang_told.specs.Told.{TellsValue, TellsSlot, TellsSlots, behind_colon}

-- what stands in front of a slot that is told next: a blank, and a colon in front of the first one
abbrev pub begun : List ℕ → List ℕ
begun [] = codes ": "
begun (b ∷ bs) = (b ∷ bs) ++ codes " "

module _ (names : List (List ℕ)) (classes : List ClassRow) (objects : List Object) where
  pub record ValueIsTold (v : Value) (old new : List ℕ) : Type 0 where
    pub text : List ℕ
    pub tells : TellsValue names classes objects v text
    pub appended : new ≡ old ++ text

  pub record SlotIsTold (slot : Option Value) (old new : List ℕ) : Type 0 where
    pub text : List ℕ
    pub tells : TellsSlot names classes objects slot text
    pub appended : new ≡ old ++ text

  pub record SlotsAreTold (slots : List (Option Value)) (told : List ℕ) : Type 0 where
    pub text : List ℕ
    pub tells : TellsSlots names classes objects slots text
    pub told_is : told ≡ behind_colon names classes objects text
