-- What suits the tables is not refused.
use Rattle.std.proofs.Common.{◌≡◌, ℕ, Bool, true, false, List, Option, Some, None, Result, Ok, Err, OnErr, slice_get, refl, ap, ◌∙◌}
use Rattle.base.specs.declared.place.Place.{Place}
use Rattle.base.specs.declared.reason.Refusal.{Refusal}
use Rattle.base.specs.declared.reason.Stop.{Stop}
use Rattle.base.specs.declared.reason.Stop.TheVariants.{Refused, NoMemory}
use Rattle.lang_meaning.specs.declared.program.GenericRow.{GenericRow}
use Rattle.lang_meaning.specs.declared.program.MethodRow.{MethodRow}
use Rattle.lang_classes.specs.Given.{StopsBy}
use Rattle.lang_dispatch.specs.Methods.{takes_at, taken_by, IsRefusal}
use Rattle.front_profile.specs.declared.elaboration.MethodHead.{MethodHead}
use Rattle.front_profile.specs.Suits.{takes_head}
use Rattle.front_elaboration.specs.Stopping.{IsWant, rest_of}

-- a class for which there is no refusal
pub class_wants : (o : Option Refusal) (stop : Stop) → StopsBy o stop → o ≡ None → IsWant stop
class_wants o (Refused r) h e = absurd (cc (e, h))
class_wants o NoMemory h e = tt

abbrev method_with : MethodHead → ℕ → MethodRow
method_with h p = record { qualifier = h.qualifier; classes = h.classes; procedure = p }

-- a method that is taken: it has a rest argument where its generic function has one

taken_there : (h : MethodHead) (p : ℕ) (o : Option GenericRow) → taken_by o (rest_of o) (method_with h p) ≡ takes_head h p o
taken_there h p None = refl
taken_there h p (Some g) = refl

pub method_wants : (place : Place) (gs : List GenericRow) (g : ℕ) (h : MethodHead) (p : ℕ) (rest : Bool) (stop : Stop)
    → rest ≡ rest_of (slice_get gs g) → takes_head h p (slice_get gs g) ≡ true
    → IsRefusal place (takes_at gs g rest (record { qualifier = h.qualifier; classes = h.classes; procedure = p })) stop → IsWant stop
method_wants place gs g h p rest (Refused r) e k w =
    let yes : takes_at gs g rest (method_with h p) ≡ true =
    ap (λ b. takes_at gs g b (method_with h p)) e ∙ taken_there h p (slice_get gs g) ∙ k in
    let no : takes_at gs g rest (method_with h p) ≡ false = w.0 in
    absurd (cc (yes, no))
method_wants place gs g h p rest NoMemory e k w = tt

-- what holds holds after a stop, and so does what follows from what does

pub on_err : {T E P : Type 0} (r : Result T E) → P → OnErr r P
on_err (Ok x) h = tt
on_err (Err e) h = h

pub err_then : {T E P Q : Type 0} (r : Result T E) → (P → Q) → OnErr r P → OnErr r Q
err_then (Ok x) f h = tt
err_then (Err e) f h = f h
