-- The registers that forms name by places, and how many they are.
use Rattle.std.proofs.Common.{ℕ, ◌+◌, ◌*◌, ◌≤◌, List, [], ◌∷◌, ◌++◌, inl, inr, Option, Some, None, length, refl, arith, length-append}
use Rattle.std.specs.Prelude.{slice_get}
use Rattle.base.specs.AllOf.{AllOf}
use Rattle.flat_language.specs.declared.place.VariablePlace.{VariablePlace}
use Rattle.flat_language.specs.declared.place.VariablePlace.TheVariants.{Slot, SlotBox, CapturedValue, CapturedBox}
use Rattle.flat_language.specs.declared.place.ExitPlace.{ExitPlace}
use Rattle.flat_language.specs.declared.place.ExitPlace.TheVariants as exit_place
use Rattle.flat_language.specs.declared.place.FlatCapture.{FlatCapture}
use Rattle.flat_language.specs.declared.place.FlatCapture.TheVariants as part
use Rattle.flat_language.specs.FlatForm.{FlatForm, local, set_local, make_function, return_from, go}
use Rattle.back_lowering.specs.declared.scope.OwnExit.{OwnExit}
use Rattle.back_lowering.specs.declared.scope.Scope.{Scope}
use Rattle.flat_boxes.specs.Boxes.{variables_among, captures_itself}
use Rattle.back_frames.proofs.FormsIn.{tally}
use Rattle.back_frames.proofs.Bounds.{own_names}
use Rattle.back_frames.proofs.Once.{In, in_left, in_right}
use Rattle.back_frames.proofs.Surroundings.{Allowed, ExitAllowed, VariableAllowed, PlaceAllowed, PartAllowed, PlacesAllowed}

abbrev register_there : Option ℕ → List ℕ
register_there None = []
register_there (Some r) = r ∷ []

abbrev exit_there : Option OwnExit → List ℕ
exit_there None = []
exit_there (Some x) = x.serial ∷ x.record_register ∷ []

abbrev of_variable : Scope → VariablePlace → List ℕ
of_variable s (Slot n) = register_there (slice_get s.slots n)
of_variable s (SlotBox n) = register_there (slice_get s.slots n)
of_variable s (CapturedValue n) = []
of_variable s (CapturedBox n) = []

abbrev of_exit : Scope → ExitPlace → List ℕ
of_exit s (exit_place.Own n) = exit_there (slice_get s.exits n)
of_exit s (exit_place.Captured n) = []

abbrev of_part : Scope → FlatCapture → List ℕ
of_part s (part.Variable p) = of_variable s p
of_part s (part.Exit x) = of_exit s x
of_part s (part.Method m) = []

abbrev of_parts : Scope → List FlatCapture → List ℕ
of_parts s [] = []
of_parts s (p ∷ ps) = of_part s p ++ of_parts s ps

abbrev of_places : Scope → FlatForm → List ℕ
of_places s (local p) = of_variable s p
of_places s (set_local p f) = of_variable s p
of_places s (make_function p parts) = of_parts s parts
of_places s (return_from x f) = of_exit s x
of_places s (go x segment) = of_exit s x
of_places s f = []

abbrev pub of_forms : Scope → List FlatForm → List ℕ
of_forms s [] = []
of_forms s (f ∷ fs) = of_places s f ++ of_forms s fs

-- how many

register_one : (o : Option ℕ) → length (register_there o) ≤ 1
register_one None = omega arith
register_one (Some r) = omega arith

exit_two : (o : Option OwnExit) → length (exit_there o) ≤ 2
exit_two None = omega arith
exit_two (Some x) = omega arith

module _ (s : Scope) where
  variable_one : (p : VariablePlace) → length (of_variable s p) ≤ 1
  variable_one (Slot n) = register_one (slice_get s.slots n)
  variable_one (SlotBox n) = register_one (slice_get s.slots n)
  variable_one (CapturedValue n) = omega arith
  variable_one (CapturedBox n) = omega arith

  place_two : (x : ExitPlace) → length (of_exit s x) ≤ 2
  place_two (exit_place.Own n) = exit_two (slice_get s.exits n)
  place_two (exit_place.Captured n) = omega arith

  parts_two : (ps : List FlatCapture) → length (of_parts s ps) + variables_among ps ≤ 2 * length ps
  parts_two [] = omega arith
  parts_two (part.Variable p ∷ ps) =
      let one = variable_one p in let more = parts_two ps in let both = length-append (of_variable s p) (of_parts s ps) in omega arith
  parts_two (part.Exit x ∷ ps) =
      let two = place_two x in let more = parts_two ps in let both = length-append (of_exit s x) (of_parts s ps) in omega arith
  parts_two (part.Method m ∷ ps) = let more = parts_two ps in omega arith

  places_few : (f : FlatForm) → length (of_places s f) + captures_itself f ≤ own_names f
  places_few (local p) = let one = variable_one p in omega arith
  places_few (set_local p f) = let one = variable_one p in omega arith
  places_few (make_function p parts) = parts_two parts
  places_few (return_from x f) = let two = place_two x in omega arith
  places_few (go x segment) = let two = place_two x in omega arith
  places_few f = omega arith

  pub forms_few : (fs : List FlatForm) → length (of_forms s fs) + tally captures_itself fs ≤ tally own_names fs
  forms_few [] = omega arith
  forms_few (f ∷ fs) = let first = places_few f in let more = forms_few fs in let both = length-append (of_places s f) (of_forms s fs) in omega arith

-- where they are allowed, places are

module _ (P : ℕ → Type 0) (s : Scope) where
  register_allowed : (o : Option ℕ) → ((r : ℕ) → In r (register_there o) → P r) → Allowed P o
  register_allowed None h = tt
  register_allowed (Some r) h = h r (inl refl)

  exit_allowed : (o : Option OwnExit) → ((r : ℕ) → In r (exit_there o) → P r) → ExitAllowed P o
  exit_allowed None h = tt
  exit_allowed (Some x) h = (h x.serial (inl refl), h x.record_register (inr (inl refl)))

  variable_allowed : (p : VariablePlace) → ((r : ℕ) → In r (of_variable s p) → P r) → VariableAllowed P s p
  variable_allowed (Slot n) h = register_allowed (slice_get s.slots n) h
  variable_allowed (SlotBox n) h = register_allowed (slice_get s.slots n) h
  variable_allowed (CapturedValue n) h = tt
  variable_allowed (CapturedBox n) h = tt

  place_allowed : (x : ExitPlace) → ((r : ℕ) → In r (of_exit s x) → P r) → PlaceAllowed P s x
  place_allowed (exit_place.Own n) h = exit_allowed (slice_get s.exits n) h
  place_allowed (exit_place.Captured n) h = tt

  part_allowed : (p : FlatCapture) → ((r : ℕ) → In r (of_part s p) → P r) → PartAllowed P s p
  part_allowed (part.Variable p) h = variable_allowed p h
  part_allowed (part.Exit x) h = place_allowed x h
  part_allowed (part.Method m) h = tt

  parts_allowed : (ps : List FlatCapture) → ((r : ℕ) → In r (of_parts s ps) → P r) → AllOf (PartAllowed P s) ps
  parts_allowed [] h = tt
  parts_allowed (p ∷ ps) h =
      (part_allowed p (λ r there. h r (in_left r (of_part s p) (of_parts s ps) there)), parts_allowed ps (λ r there. h r (in_right r (of_part s p) (of_parts s ps) there)))

  places_allowed : (f : FlatForm) → ((r : ℕ) → In r (of_places s f) → P r) → PlacesAllowed P s f
  places_allowed (local p) h = variable_allowed p h
  places_allowed (set_local p f) h = variable_allowed p h
  places_allowed (make_function p parts) h = parts_allowed parts h
  places_allowed (return_from x f) h = place_allowed x h
  places_allowed (go x segment) h = place_allowed x h
  places_allowed f h = tt

  pub forms_allowed : (fs : List FlatForm) → ((r : ℕ) → In r (of_forms s fs) → P r) → AllOf (PlacesAllowed P s) fs
  forms_allowed [] h = tt
  forms_allowed (f ∷ fs) h =
      (places_allowed f (λ r there. h r (in_left r (of_places s f) (of_forms s fs) there)), forms_allowed fs (λ r there. h r (in_right r (of_places s f) (of_forms s fs) there)))
