-- The row of a class definition: its lowest reason, and what stands behind its name.
use Rattle.std.proofs.Common.{◌≡◌, ℕ, Bool, true, false, not, ◌&&◌, List, Option, Some, None, if◌then◌else◌, ap}
use Rattle.std.specs.List.{list_all}
use Rattle.base.specs.declared.datum.Name.{Name}
use Rattle.base.specs.declared.place.Place.{Place}
use Rattle.base.specs.declared.reason.Reason.{Reason}
use Rattle.base.specs.declared.reason.Reason.TheVariants.{BadSupers, BadSlot, BadMethod}
use Rattle.base.specs.Data.{Item}
use Rattle.front_profile.specs.declared.tables.Tables.{Tables}
use Rattle.front_profile.specs.Nodes.{StaticContext, Node, offends}
use Rattle.front_profile.specs.RowWords.{bad_shape}
use Rattle.front_profile.specs.ClassShapes.{WrittenSuper, WrittenSlot, ClassOption, are_options}
use Rattle.front_profile.specs.ClassRows.{Use, are_supers, few_inherited, fits_generic, names_differ, class_of, class_shaped}
use Rattle.front_class_definitions.specs.Classes.{ClassWritten, written_as, class_offence}

-- the lowest reason

lowest_by : (a b c : Bool) (p : Place) (r : Reason) (x : Node)
    → (if not a then Some BadSupers else if not b then Some BadSlot else if c then None else Some BadMethod) ≡ Some r
    → offends p r ≡ (if not a then offends p BadSupers else if not b then offends p BadSlot else if c then x else offends p BadMethod)
lowest_by false b c p r x h = let same : r ≡ BadSupers = cc in cc
lowest_by true false c p r x h = let same : r ≡ BadSlot = cc in cc
lowest_by true true false p r x h = let same : r ≡ BadMethod = cc in cc
lowest_by true true true p r x h = absurd (cc)

pub lowest : (s : Tables) (cs : List WrittenSuper) (us : List Use) (p : Place) (r : Reason) (x : Node) → class_offence s cs us ≡ Some r
    → offends p r
    ≡ (if not (are_supers s cs) then offends p BadSupers
    else if not (few_inherited s cs) then offends p BadSlot
    else if list_all (fits_generic s) us && names_differ us then x
    else offends p BadMethod)
lowest s cs us p r x h = lowest_by (are_supers s cs) (few_inherited s cs) (list_all (fits_generic s) us && names_differ us) p r x h

-- what stands behind the name

written_by : (b : Bool) (w v : ClassWritten) (f : ClassWritten → Node) (y : Node) → Some w ≡ (if b then Some v else None)
    → f w ≡ (if b then f v else y)
written_by true w v f y h = let same : w ≡ v = cc in ap f same
written_by false w v f y h = absurd (cc)

pub shaped : (names : List (List ℕ)) (a : StaticContext) (s : Tables) (p : Place) (d : Item) (n : Name) (w : ClassWritten)
    (cs : Option (List WrittenSuper)) (xs : Option (List WrittenSlot)) (os : List ClassOption) → Some w ≡ written_as cs xs os
    → class_of names a s p d n w.supers w.slots w.options ≡ class_shaped names a s p d (Some n) cs xs os
shaped names a s p d n w None xs os h = absurd (cc)
shaped names a s p d n w (Some cs) None os h = absurd (cc)
shaped names a s p d n w (Some cs) (Some xs) os h =
    written_by (are_options os) w (record { supers = cs; slots = xs; options = os })
    (λ v. class_of names a s p d n v.supers v.slots v.options) (bad_shape p) h
