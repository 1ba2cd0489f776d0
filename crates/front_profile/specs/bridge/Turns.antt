-- Parts behind parts: a turn of the loop that judges them, its end, and a stop.
use Rattle.std.proofs.Common.{◌≡◌, ◌++◌, List, [], ◌∷◌, refl, ap, subst, sym, ◌∙◌}
use Rattle.std.specs.Prelude.{ℕ}
use Rattle.base.specs.declared.reason.Stop.{Stop}
use Rattle.base.specs.declared.reason.Stop.TheVariants.{Refused, NoMemory}
use Rattle.base.specs.Names.{Extends, Extends-then}
use Rattle.front_profile.specs.declared.elaboration.ElaboratedPart.{ElaboratedPart}
use Rattle.front_profile.specs.declared.elaboration.Made.{Made}
use Rattle.front_profile.specs.declared.tables.Tables.{Tables}
use Rattle.front_profile.specs.Nodes.{StaticContext, Part, EarlyEnd, stands, behind, recorded}
use Rattle.front_profile.specs.Elaborations.{made_form, finished}
use Rattle.front_profile.specs.Judged.{Verdicts, all_stand, one_ended, in_front, made, ElaboratesAll, ends, goes, stops}
use Rattle.front_profile.specs.Walks.{PartTaken, PartStops, all_in_front, Through, PartsStop, WholeComes, WholeStops}

-- nothing was judged yet
pub through_none : (names : List (List ℕ)) (o i : StaticContext) (s : Tables) (xs : List Part) → Through names o i s xs [] i s xs
through_none names o i s xs = record { under = λ later e w g. g }

front_more : (rs : List ElaboratedPart) (r : ElaboratedPart) (w : Verdicts) → all_in_front (rs ++ r ∷ []) w ≡ all_in_front rs (in_front r w)
front_more [] r w = refl
front_more (q ∷ qs) r w = ap (in_front q) (front_more qs r w)

front_end : (rs : List ElaboratedPart) (e : EarlyEnd) → all_in_front rs (one_ended e) ≡ one_ended e
front_end [] e = refl
front_end (r ∷ rs) e = ap (in_front r) (front_end rs e)

-- what holds under a table of names holds under a later one
pub through_later : (names more : List (List ℕ)) (o i : StaticContext) (s : Tables) (xs : List Part) (rs : List ElaboratedPart) (i2 : StaticContext) (t : Tables) (ys : List Part) →
    Extends names more → Through names o i s xs rs i2 t ys → Through more o i s xs rs i2 t ys
through_later names more o i s xs rs i2 t ys e h = record { under = λ later f w g. h.under later (Extends-then names more later e f) w g }

-- a part more
pub turn : (names more : List (List ℕ)) (o i : StaticContext) (s : Tables) (xs : List Part) (rs : List ElaboratedPart) (i2 : StaticContext) (t : Tables) (y : Part) (ys : List Part) (i3 : StaticContext) (u : Tables) (rs2 : List ElaboratedPart) →
    Extends names more → Through names o i s xs rs i2 t (y ∷ ys) → PartTaken more o i2 t y rs i3 u rs2 → Through more o i s xs rs2 i3 u ys
turn names more o i s xs rs i2 t y ys i3 u rs2 e h p = record {
  under = λ later f w g.
      let here : ElaboratesAll later o (behind i2 t y) u ys w = subst (λ (j : StaticContext). ElaboratesAll later o j u ys w) p.around g in
      let all : ElaboratesAll later o i s xs (all_in_front rs (in_front (recorded t y p.form) w)) =
      h.under later (Extends-then names more later e f) _ (goes o i2 t y ys (record { form = p.form; tables = u }) w (p.part.under later f) here) in
      let same : all_in_front rs2 w ≡ all_in_front rs (in_front (recorded t y p.form) w) =
      ap (λ qs. all_in_front qs w) p.found ∙ front_more rs (recorded t y p.form) w in
      subst (λ v. ElaboratesAll later o i s xs v) (sym same) all;
}

-- a stop of a part
pub turn_stops : (names more : List (List ℕ)) (o i : StaticContext) (s : Tables) (xs : List Part) (rs : List ElaboratedPart) (i2 : StaticContext) (t : Tables) (y : Part) (ys : List Part) (stop : Stop) →
    Extends names more → Through names o i s xs rs i2 t (y ∷ ys) → PartStops more o i2 t y stop → PartsStop more o i s xs stop
turn_stops names more o i s xs rs i2 t y ys NoMemory e h p = tt
turn_stops names more o i s xs rs i2 t y ys (Refused r) e h p = record {
  under = λ later f.
      subst (λ v. ElaboratesAll later o i s xs v) (front_end rs _)
      (h.under later (Extends-then names more later e f) _ (stops o i2 t y ys _ (p.under later f)));
}

-- parts, and the parts behind them
pub through_then : (names more : List (List ℕ)) (o i : StaticContext) (s : Tables) (xs : List Part) (rs : List ElaboratedPart) (i2 : StaticContext) (t : Tables) (ys : List Part) (stop : Stop) →
    Extends names more → Through names o i s xs rs i2 t ys → PartsStop more o i2 t ys stop → PartsStop more o i s xs stop
through_then names more o i s xs rs i2 t ys NoMemory e h p = tt
through_then names more o i s xs rs i2 t ys (Refused r) e h p = record {
  under = λ later f.
      subst (λ v. ElaboratesAll later o i s xs v) (front_end rs _) (h.under later (Extends-then names more later e f) _ (p.under later f));
}

pub front_all : (rs : List ElaboratedPart) (t : Tables) → all_in_front rs (all_stand (record { found = []; tables = t })) ≡ all_stand (record { found = rs; tables = t })
front_all [] t = refl
front_all (r ∷ rs) t = ap (in_front r) (front_all rs t)

-- all parts were judged, and the form is made of them
pub whole_stands : (names : List (List ℕ)) (o i : StaticContext) (s : Tables) (xs : List Part) (m : Made) (rs : List ElaboratedPart) (i2 : StaticContext) (t : Tables) →
    Through names o i s xs rs i2 t [] →
    WholeComes names o i s xs m (stands (record { form = made_form m rs; tables = finished m rs t }))
whole_stands names o i s xs m rs i2 t h = record {
  under = λ later f.
      made o i s xs m _
      (subst (λ v. ElaboratesAll later o i s xs v) (front_all rs t) (h.under later f _ (ends o i2 t)));
}

-- a part has stopped
pub whole_stops : (names : List (List ℕ)) (o i : StaticContext) (s : Tables) (xs : List Part) (m : Made) (stop : Stop) →
    PartsStop names o i s xs stop → WholeStops names o i s xs m stop
whole_stops names o i s xs m NoMemory p = tt
whole_stops names o i s xs m (Refused r) p = record { under = λ later f. made o i s xs m _ (p.under later f) }
