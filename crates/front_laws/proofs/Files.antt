-- Where what refuses a text stands: by induction over its forms. In a file each place has a line and a column from 1 on, in a prelude each is 0:0.
use Rattle.std.specs.Prelude.{◌≡◌, ℕ, List}
use Rattle.std.proofs.Common.{refl, arith, sym, subst, inl, inr}
use Rattle.base.specs.declared.origin.Origin.{Origin}
use Rattle.base.specs.declared.origin.Origin.TheVariants.{Prelude, File}
use Rattle.base.specs.declared.place.Place.{Place}
use Rattle.base.specs.declared.reason.Reason.{Reason}
use Rattle.base.specs.declared.reason.Refusal.{Refusal}
use Rattle.base.specs.declared.reason.Stop.TheVariants.{Refused}
use Rattle.base.specs.declared.datum.Name.{Name}
use Rattle.base.specs.Data.{Item, place_of}
use Rattle.base.specs.Names.{Extends-same}
use Rattle.front_profile.specs.declared.tables.Tables.{Tables}
use Rattle.front_profile.specs.Cuts.{opened}
use Rattle.front_reader.specs.Characters.{place_after}
use Rattle.front_reader.specs.Readers.{first_place}
use Rattle.front_scope.specs.Scopes.{top, IsFormStopped, IsRefusedWhole, at_form}
use Rattle.front_files.specs.declared.mode.Mode.{Mode}
use Rattle.front_files.specs.declared.mode.Mode.TheVariants.{Run}
use Rattle.front_files.specs.Shown.{printing_at, IsForm, runs, not_last, last_stays, last_shown}
use Rattle.front_files.specs.Verdicts.{Judgement, all_taken, one_refused, Judges, at_end, form_taken, form_refused, text_stops, BehindPrelude, IsOfFile, its_length, in_it}
use Rattle.front_laws.specs.Places.{InText}
use Rattle.front_laws.proofs.AllPlaces.{AllPlaces}
use Rattle.front_laws.proofs.Parts.{its_place}
use Rattle.front_laws.proofs.Judging.{offence_too}
use Rattle.front_laws.proofs.Texts.{after_in, IsOfPrelude, after_prelude, bytes_in, next_in, stop_in}

module _ (P : Place → Type 0) (onward : (p : Place) (b : ℕ) → P p → P (place_after p b)) where
  -- ---- the form that is judged for a datum

  printing_in : (p : Place) (format standard_output : Name) (d : Item) → P p → AllPlaces P d → AllPlaces P (printing_at p format standard_output d)
  unfolding AllPlaces
  printing_in p format standard_output d q g = (q, (((q, tt), ((q, (((q, tt), tt), tt)), ((q, tt), (g, tt)))), tt))

  form_in : (names : List (List ℕ)) (mode : Mode) (d : Item) (after : List ℕ) (e : Item) → AllPlaces P d → IsForm names mode d after e → AllPlaces P e
  form_in names _ _ _ _ g (runs d after) = g
  form_in names _ _ _ _ g (not_last d after x) = g
  form_in names _ _ _ _ g (last_stays d after x) = g
  form_in names _ _ _ _ g (last_shown d after e x y p) =
      subst (AllPlaces P) (sym p.is) (printing_in (place_of d) p.format p.standard_output d (its_place P d g) g)

  -- ---- a form that is refused

  at_its_place : (d : Item) (reason : Reason) (r : Refusal) → AllPlaces P d → r ≡ at_form d reason → P r.place
  at_its_place d reason r g e = let Q : Refusal → Type 0 = λ x. P x.place in subst Q (sym e) (its_place P d g)

  whole_in : (names : List (List ℕ)) (origin : Origin) (s : Tables) (d : Item) (r : Refusal) → AllPlaces P d → IsRefusedWhole names origin s d r → P r.place
  whole_in names origin s d r g (inl x) = at_its_place d _ r g x.1
  whole_in names origin s d r g (inr x) = at_its_place d _ r g x.1

  stopped_in : (names : List (List ℕ)) (origin : Origin) (s : Tables) (d : Item) (r : Refusal) → AllPlaces P d → IsFormStopped names origin s d (Refused r) → P r.place
  stopped_in names origin s d r g (inl x) = offence_too P names (top origin) s d r.place r.reason g (x.under names (Extends-same names))
  stopped_in names origin s d r g (inr x) = whole_in names origin s d r g x

  -- ---- a text

  abbrev PlaceOfJudgement : Judgement → Type 0
  PlaceOfJudgement (all_taken t) = Unit {0}
  PlaceOfJudgement (one_refused r) = P r.place

  judged_in : (names : List (List ℕ)) (origin : Origin) (mode : Mode) (s : Tables) (text : List ℕ) (p : Place) (j : Judgement) → P p →
      Judges names origin mode s text p j → PlaceOfJudgement j
  judged_in names origin mode _ _ _ _ h (at_end s text p g) = tt
  judged_in names origin mode _ _ _ _ h (form_taken s text p d after t j r f rest) =
      judged_in names origin mode t after _ j (bytes_in P onward _ r.bytes (bytes_in P onward p r.gap h)) rest
  judged_in names origin mode _ _ _ _ h (form_refused s text p d after r reads f) =
      stopped_in names origin (opened s) f.form r (form_in names mode d after f.form (next_in P onward names text p d after h reads) f.is_form) f.refused
  judged_in names origin mode _ _ _ _ h (text_stops s text p r x) = stop_in P onward p text r.place r.reason h x.stops

-- ---- a file, and a prelude

first_in : InText (first_place File)
first_in = record { line = omega arith; column = omega arith }

-- what refuses a file by its length, or in its text
pub refusal_in : (names : List (List ℕ)) (text : List ℕ) (mode : Mode) (r : Refusal) → IsOfFile names text mode r → InText r.place
refusal_in names text mode r (its_length e) = let P : Refusal → Type 0 = λ x. InText x.place in subst P (sym e) first_in
refusal_in names text mode r (in_it t j) = judged_in InText after_in names File mode t text (first_place File) (one_refused r) first_in j

-- what refuses a prelude
pub prelude_refusal_in : (names : List (List ℕ)) (prelude : List ℕ) (r : Refusal) → BehindPrelude names prelude (one_refused r) → r.place ≡ first_place Prelude
prelude_refusal_in names prelude r x =
    judged_in IsOfPrelude after_prelude names Prelude Run x.first prelude (first_place Prelude) (one_refused r) refl x.judges
