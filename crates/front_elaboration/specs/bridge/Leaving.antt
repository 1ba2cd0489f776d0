-- Tables that are left where memory is wanting: they have grown, if they have changed at all.
use Rattle.std.proofs.Common.{◌≡◌, ℕ, Bool, List, sym, subst}
use Rattle.front_profile.specs.declared.tables.Tables.{Tables}
use Rattle.front_profile.specs.declared.elaboration.ElaboratedPart.{ElaboratedPart}
use Rattle.front_profile.specs.declared.elaboration.MethodHead.{MethodHead}
use Rattle.front_profile.specs.declared.elaboration.Leaf.{Leaf}
use Rattle.front_profile.specs.declared.elaboration.Taker.{Taker}
use Rattle.front_profile.specs.declared.elaboration.NewClass.{NewClass}
use Rattle.front_profile.specs.declared.elaboration.Made.{Made}
use Rattle.front_profile.specs.declared.elaboration.Elaboration.{Elaboration}
use Rattle.front_profile.specs.declared.elaboration.Elaboration.TheVariants.{OfMethods, OfClass}
use Rattle.front_profile.specs.Elaborations.{finished}
use Rattle.front_profile.specs.Marks.{TablesGrow}
use Rattle.front_profile.specs.bridge.Growing.{tables_grow_reflexive, finish_grows}
use Rattle.front_elaboration.specs.Stopping.{LeavesTables}

-- what is left has grown
pub leaves_grow : (m : Elaboration) (s u : Tables) → LeavesTables m s u → TablesGrow s u
leaves_grow (OfMethods t hs p of_file l) s u w = w
leaves_grow (OfClass c p of_file l) s u w = w
leaves_grow m s u w = subst (λ (v : Tables). TablesGrow s v) (sym w) (tables_grow_reflexive s)

-- all that is defined may be left of a definition of methods or of a class

pub methods_left : (m : Made) (rs : List ElaboratedPart) (t : Taker) (hs : List MethodHead) (p : ℕ) (of_file : Bool) (l : Leaf) (s u : Tables)
    → m.making ≡ OfMethods t hs p of_file l → u ≡ finished m rs s → LeavesTables m.making s u
methods_left m rs t hs p of_file l s u e f =
    subst (λ (n : Elaboration). LeavesTables n s u) (sym e)
    (subst (λ (v : Tables). TablesGrow s v) (sym f) (finish_grows s s m.making rs (tables_grow_reflexive s)))

pub class_left : (m : Made) (rs : List ElaboratedPart) (c : NewClass) (p : ℕ) (of_file : Bool) (l : Leaf) (s u : Tables)
    → m.making ≡ OfClass c p of_file l → u ≡ finished m rs s → LeavesTables m.making s u
class_left m rs c p of_file l s u e f =
    subst (λ (n : Elaboration). LeavesTables n s u) (sym e)
    (subst (λ (v : Tables). TablesGrow s v) (sym f) (finish_grows s s m.making rs (tables_grow_reflexive s)))
