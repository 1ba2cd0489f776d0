-- What is allowed of a form's surroundings, and what a scope keeps where it gets more slots or exits.
use Rattle.std.proofs.Common.{ℕ, zero, suc, ◌+◌, List, [], ◌∷◌, ◌++◌, Option, Some, None, map}
use Rattle.std.specs.Prelude.{slice_get}
use Rattle.base.specs.AllOf.{AllOf, all_map}
use Rattle.flat_language.specs.declared.place.VariablePlace.{VariablePlace}
use Rattle.flat_language.specs.declared.place.VariablePlace.TheVariants.{Slot, SlotBox, CapturedValue, CapturedBox}
use Rattle.flat_language.specs.declared.place.ExitPlace.{ExitPlace}
use Rattle.flat_language.specs.declared.place.ExitPlace.TheVariants as exit_place
use Rattle.flat_language.specs.declared.place.FlatCapture.{FlatCapture}
use Rattle.flat_language.specs.declared.place.FlatCapture.TheVariants as part
use Rattle.flat_language.specs.FlatForm.{FlatForm, local, set_local, make_function, return_from, go}
use Rattle.back_lowering.specs.declared.scope.SitePlace.{SitePlace}
use Rattle.back_lowering.specs.declared.scope.SitePlace.TheVariants.{Known, Held}
use Rattle.back_lowering.specs.declared.scope.Reach.{Reach}
use Rattle.back_lowering.specs.declared.scope.Reach.TheVariants.{BySearch}
use Rattle.back_lowering.specs.declared.scope.OwnExit.{OwnExit}
use Rattle.back_lowering.specs.declared.scope.Scope.{Scope}
use Rattle.back_lowering.specs.Scope.{with_slots, with_exit, behind_cleanup, inside_cleanup, in_cleanup}
use Rattle.back_frames.proofs.FormsIn.{forms_in}

module _ (P : ℕ → Type 0) where
  -- a register that may be there
  abbrev pub Allowed : Option ℕ → Type 0
  Allowed None = Unit {0}
  Allowed (Some r) = P r

  abbrev pub ExitAllowed : Option OwnExit → Type 0
  ExitAllowed None = Unit {0}
  ExitAllowed (Some x) = P x.serial × P x.record_register

  abbrev pub MethodAllowed : Option ℕ → Type 0
  MethodAllowed None = Unit {0}
  MethodAllowed (Some m) = P m × P (m + 1) × P (m + 2)

  abbrev pub SiteAllowed : SitePlace → Type 0
  SiteAllowed (Known n) = Unit {0}
  SiteAllowed (Held r) = P r

  -- what any form in a function may name: the function itself, its method, and the site
  pub record Around (s : Scope) : Type 0 where
    pub function : P s.function
    pub method : MethodAllowed s.method
    pub site : SiteAllowed s.site

  -- what a form names by places

  abbrev pub VariableAllowed : Scope → VariablePlace → Type 0
  VariableAllowed s (Slot n) = Allowed (slice_get s.slots n)
  VariableAllowed s (SlotBox n) = Allowed (slice_get s.slots n)
  VariableAllowed s (CapturedValue n) = Unit {0}
  VariableAllowed s (CapturedBox n) = Unit {0}

  abbrev pub PlaceAllowed : Scope → ExitPlace → Type 0
  PlaceAllowed s (exit_place.Own n) = ExitAllowed (slice_get s.exits n)
  PlaceAllowed s (exit_place.Captured n) = Unit {0}

  abbrev pub PartAllowed : Scope → FlatCapture → Type 0
  PartAllowed s (part.Variable p) = VariableAllowed s p
  PartAllowed s (part.Exit x) = PlaceAllowed s x
  PartAllowed s (part.Method m) = Unit {0}

  abbrev pub PlacesAllowed : Scope → FlatForm → Type 0
  PlacesAllowed s (local p) = VariableAllowed s p
  PlacesAllowed s (set_local p f) = VariableAllowed s p
  PlacesAllowed s (make_function p parts) = AllOf (PartAllowed s) parts
  PlacesAllowed s (return_from x f) = PlaceAllowed s x
  PlacesAllowed s (go x segment) = PlaceAllowed s x
  PlacesAllowed s f = Unit {0}

  abbrev pub AllPlaces : Scope → FlatForm → Type 0
  AllPlaces s f = AllOf (PlacesAllowed s) (forms_in f)

  -- what is allowed in one scope is in another
  pub record Keeps (s s' : Scope) : Type 0 where
    pub slots : (n : ℕ) → Allowed (slice_get s.slots n) → Allowed (slice_get s'.slots n)
    pub exits : (n : ℕ) → ExitAllowed (slice_get s.exits n) → ExitAllowed (slice_get s'.exits n)

  module _ (s s' : Scope) (keeps : Keeps s s') where
    variable_kept : (p : VariablePlace) → VariableAllowed s p → VariableAllowed s' p
    variable_kept (Slot n) h = keeps.slots n h
    variable_kept (SlotBox n) h = keeps.slots n h
    variable_kept (CapturedValue n) h = tt
    variable_kept (CapturedBox n) h = tt

    place_kept : (x : ExitPlace) → PlaceAllowed s x → PlaceAllowed s' x
    place_kept (exit_place.Own n) h = keeps.exits n h
    place_kept (exit_place.Captured n) h = tt

    part_kept : (p : FlatCapture) → PartAllowed s p → PartAllowed s' p
    part_kept (part.Variable p) h = variable_kept p h
    part_kept (part.Exit x) h = place_kept x h
    part_kept (part.Method m) h = tt

    places_kept : (f : FlatForm) → PlacesAllowed s f → PlacesAllowed s' f
    places_kept (local p) h = variable_kept p h
    places_kept (set_local p f) h = variable_kept p h
    places_kept (make_function p parts) h = all_map (PartAllowed s) (PartAllowed s') part_kept parts h
    places_kept (return_from x f) h = place_kept x h
    places_kept (go x segment) h = place_kept x h
    places_kept f h = h

    pub all_kept : (fs : List FlatForm) → AllOf (PlacesAllowed s) fs → AllOf (PlacesAllowed s') fs
    all_kept fs h = all_map (PlacesAllowed s) (PlacesAllowed s') places_kept fs h

  slots_more : (rs more : List ℕ) → AllOf P more → (n : ℕ) → Allowed (slice_get rs n) → Allowed (slice_get (rs ++ more) n)
  slots_more [] [] all n h = tt
  slots_more [] (q ∷ more) all zero h = all.0
  slots_more [] (q ∷ more) all (suc n) h = slots_more [] more all.1 n tt
  slots_more (r ∷ rs) more all zero h = h
  slots_more (r ∷ rs) more all (suc n) h = slots_more rs more all n h

  exits_more : (xs : List OwnExit) (x : OwnExit) → P x.serial → P x.record_register → (n : ℕ) → ExitAllowed (slice_get xs n) → ExitAllowed (slice_get (xs ++ x ∷ []) n)
  exits_more [] x a b zero h = (a, b)
  exits_more [] x a b (suc n) h = tt
  exits_more (y ∷ xs) x a b zero h = h
  exits_more (y ∷ xs) x a b (suc n) h = exits_more xs x a b n h

  exits_same : (how : Reach → Reach) (xs : List OwnExit) (n : ℕ) → ExitAllowed (slice_get xs n)
      → ExitAllowed (slice_get (map (λ (x : OwnExit). record x { reach = how x.reach }) xs) n)
  exits_same how [] n h = h
  exits_same how (x ∷ xs) zero h = h
  exits_same how (x ∷ xs) (suc n) h = exits_same how xs n h

  pub slots_keep : (s : Scope) (more : List ℕ) → AllOf P more → Keeps s (with_slots more s)
  slots_keep s more all = record { slots = λ n h. slots_more s.slots more all n h; exits = λ n h. h }

  pub exit_keeps : (s : Scope) (e r : ℕ) → P e → P r → Keeps s (with_exit e r s)
  exit_keeps s e r a b = record { slots = λ n h. h; exits = λ n h. exits_more s.exits _ a b n h }

  pub inside_keeps : (s : Scope) → Keeps s (inside_cleanup s)
  inside_keeps s = record { slots = λ n h. h; exits = λ n h. exits_same behind_cleanup s.exits n h }

  pub cleanup_keeps : (s : Scope) → Keeps s (in_cleanup s)
  cleanup_keeps s = record { slots = λ n h. h; exits = λ n h. exits_same (λ r. BySearch) s.exits n h }
