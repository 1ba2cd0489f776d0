-- The words of slots are those of what stands for their initargs and initforms.
use Rattle.std.proofs.Common.{◌≡◌, ℕ, zero, suc, ◌+◌, List, [], ◌∷◌, length, Some, refl, sym, ◌∙◌, ap}
use Rattle.std.specs.Prelude.{slice_get}
use Rattle.lang_meaning.specs.declared.program.ProgramRows.{ProgramRows}
use Rattle.lang_meaning.specs.declared.program.ClassRow.{ClassRow}
use Rattle.lang_meaning.specs.declared.program.SlotRow.{SlotRow}
use Rattle.lang_meaning.specs.Values.{Value}
use Rattle.lang_meaning.specs.Objects.{built_in_classes}
use Rattle.mid_arena.specs.Places.{Places, word_of}
use Rattle.mid_start.specs.declared.slots.SlotWords.{SlotWords}
use Rattle.lang_meaning.specs.Recipes.{Recipe, in_turn}
use Rattle.mid_start.specs.Recipes.{SlotValues, of_slot, slot_recipe, slots_recipe}
use Rattle.mid_start.specs.Making.{IsSlot, EachStandsFor}
use Rattle.mid_start.specs.Settling.{SlotStands, SlotsStand, SlotsAreCounted}
use Rattle.lang_meaning.proofs.SlotPlaces.{SlotPart, args, form, Reading, value_at, value_in_class, slot_under}
use Rattle.lang_meaning.proofs.WholeRecipes.{at_slots, initargs_whole, initform_whole}

-- as many values as there are in the list
pub turn_length : {X V : Type 0} (f : X → Recipe V) (xs : List X) (n : ℕ) → length (in_turn f xs n).1 ≡ length xs
turn_length f [] n = refl
turn_length f (x ∷ xs) n = ap (λ k. suc k) (turn_length f xs (n + length (f x n).0))

-- what is made of the one at a place of a list
pub turn_at : {X V : Type 0} (f : X → Recipe V) (xs : List X) (n i : ℕ) (x : X) → slice_get xs i ≡ Some x → (m : ℕ) × (slice_get (in_turn f xs n).1 i ≡ Some (f x m).1)
turn_at f [] n i x e = absurd (cc)
turn_at f (y ∷ ys) n zero x e = let same : y ≡ x = cc in (n, ap (λ z. Some (f z n).1) same)
turn_at f (y ∷ ys) n (suc i) x e = turn_at f ys (n + length (f y n).0) i x e

each_at :
    {V W : Type 0} (means : Places → V → W → Type 0) (places : Places) (vs : List V) (ws : List W) (i : ℕ) (v : V) (w : W)
    → EachStandsFor means places vs ws → slice_get vs i ≡ Some v → slice_get ws i ≡ Some w → means places v w
each_at means places [] ws i v w h e f = absurd (cc)
each_at means places (u ∷ us) [] i v w h e f = absurd (cc)
each_at means places (u ∷ us) (x ∷ xs) zero v w h e f = let one : u ≡ v = cc in let other : x ≡ w = cc in rw (← one, ← other) h.0
each_at means places (u ∷ us) (x ∷ xs) (suc i) v w h e f = each_at means places us xs i v w h.1 e f

pub each_length : {V W : Type 0} (means : Places → V → W → Type 0) (places : Places) (vs : List V) (ws : List W) → EachStandsFor means places vs ws → length ws ≡ length vs
each_length means places [] [] h = refl
each_length means places [] (w ∷ ws) h = absurd h
each_length means places (v ∷ vs) [] h = absurd h
each_length means places (v ∷ vs) (w ∷ ws) h = ap (λ n. suc n) (each_length means places vs ws h.1)

-- what is read of what stands for a slot
abbrev read_of : SlotPart → SlotValues → Value
read_of args v = v.initargs
read_of form v = v.initform

abbrev of_slots : (names : List (List ℕ)) → Reading (of_slot names)
of_slots names = record { read = read_of; args_are = λ s a f. refl; form_are = λ s a f. refl }

value_there : (read : SlotValues → Value) (vs : List SlotValues) (i : ℕ) (v : SlotValues) → slice_get vs i ≡ Some v → value_at read vs i ≡ read v
value_there read [] i v e = absurd (cc)
value_there read (u ∷ us) zero v e = let same : u ≡ v = cc in ap read same
value_there read (u ∷ us) (suc i) v e = value_there read us i v e

value_in_there : (read : SlotValues → Value) (vss : List (List SlotValues)) (c i : ℕ) (vs : List SlotValues) → slice_get vss c ≡ Some vs
    → value_in_class read vss c i ≡ value_at read vs i
value_in_there read [] c i vs e = absurd (cc)
value_in_there read (us ∷ uss) zero i vs e = let same : us ≡ vs = cc in ap (λ xs. value_at read xs i) same
value_in_there read (us ∷ uss) (suc c) i vs e = value_in_there read uss c i vs e

module _
    (names : List (List ℕ)) (program : ProgramRows) (places : Places) (slots : List (List SlotWords))
    (counted : SlotsAreCounted program.classes slots)
    (words : EachStandsFor (EachStandsFor IsSlot) places (in_turn (slots_recipe names) program.classes (at_slots names built_in_classes program)).1 slots)
  where
    abbrev values : List (List SlotValues)
    values = (in_turn (slots_recipe names) program.classes (at_slots names built_in_classes program)).1

    pub slots_stand_there :
        (class : ℕ) (row : ClassRow) (ss : List SlotWords) → slice_get program.classes class ≡ Some row → slice_get slots class ≡ Some ss
        → SlotsStand names program places class row.slots ss
    slots_stand_there class row ss here found = record { count = counted.each class row ss here found; each = each }
      where
        each : (i : ℕ) (r : SlotRow) (s : SlotWords) → slice_get row.slots i ≡ Some r → slice_get ss i ≡ Some s → SlotStands names program places class i r s
        each i r s e f =
            let of_class = turn_at (slots_recipe names) program.classes (at_slots names built_in_classes program) class row here in
            let vs : List SlotValues = (slots_recipe names row of_class.0).1 in
            let of_one = turn_at (slot_recipe names) row.slots of_class.0 i r e in
            let v : SlotValues = (slot_recipe names r of_one.0).1 in
            let all : EachStandsFor IsSlot places vs ss = each_at (EachStandsFor IsSlot) places values slots class vs ss words of_class.1 found in
            let one : IsSlot places v s = each_at IsSlot places vs ss i v s all of_one.1 f in
            record {
              name = one.name;
              initargs =
                  ap (word_of places)
                  (sym (initargs_whole names built_in_classes program class i) ∙ slot_under (of_slot names) (of_slots names) names args program.classes (at_slots names built_in_classes program) class i
                  ∙ value_in_there (read_of args) values class i vs of_class.1 ∙ value_there (read_of args) vs i v of_one.1)
                  ∙ one.initargs;
              initform =
                  ap (word_of places)
                  (sym (initform_whole names built_in_classes program class i) ∙ slot_under (of_slot names) (of_slots names) names form program.classes (at_slots names built_in_classes program) class i
                  ∙ value_in_there (read_of form) values class i vs of_class.1 ∙ value_there (read_of form) vs i v of_one.1)
                  ∙ one.initform;
            }
