-- The forms of a text, one after another, while names are added.
use Rattle.std.proofs.Common.{◌≡◌, ℕ, List, length, None, Result, Ok, Err, OnOk, IfErr, subst}
use Rattle.base.specs.declared.origin.Origin.{Origin}
use Rattle.base.specs.declared.place.Place.{Place}
use Rattle.base.specs.declared.reason.Stop.{Stop}
use Rattle.base.specs.declared.reason.Stop.TheVariants.{Refused, NoMemory}
use Rattle.base.specs.Data.{Item}
use Rattle.base.specs.WellFormedData.{WellFormed, good_stays}
use Rattle.base.specs.Names.{Extends, Extends-then}
use Rattle.front_profile.specs.declared.tables.Tables.{Tables}
use Rattle.front_reader.specs.Answers.{IsRead, IsEnded, IsReaderStopped}
use Rattle.front_reader.specs.Readers.{ReaderState}
use Rattle.front_reader.specs.bridge.LaterReads.{next_later}
use Rattle.front_reader.specs.bridge.WellFormedReads.{next_good}
use Rattle.front_profile.specs.Cuts.{opened}
use Rattle.front_scope.specs.Scopes.{IsTaken, IsFormStopped as IsFormStopped}
use Rattle.front_files.specs.declared.mode.Mode.{Mode}
use Rattle.front_files.specs.Shown.{IsForm}
use Rattle.front_files.specs.Verdicts.{FormTaken, Judgement, all_taken, Judges, at_end, form_taken, form_refused, text_stops}
use Rattle.front_files.specs.bridge.Later.{form_later, form_taken_later}
use Rattle.front_files.specs.bridge.Stopping.{FormStops, JudgesStop}

-- some forms of a text were taken: whatever those behind them come to, all of the text come to
pub record FormsTaken (names : List (List ℕ)) (origin : Origin) (mode : Mode) (s : Tables) (text : List ℕ) (p : Place) (t : Tables) (rest : List ℕ) (q : Place) : Type 0 where
  pub under : (later : List (List ℕ)) → Extends names later → (j : Judgement) → Judges later origin mode t rest q j → Judges later origin mode s text p j

-- in front of all forms
pub leads_start : (names : List (List ℕ)) (origin : Origin) (mode : Mode) (s : Tables) (text : List ℕ) (p : Place) → FormsTaken names origin mode s text p s text p
leads_start names origin mode s text p = record { under = λ later x j h. h }

-- a form more
pub leads_more : (names more last : List (List ℕ)) (origin : Origin) (mode : Mode) (s : Tables) (text : List ℕ) (p : Place) (t : Tables) (old new : ReaderState) (d : Item) (u : Tables) →
    Extends names more → Extends more last → FormsTaken names origin mode s text p t old.rest old.place → IsRead more old new d →
    FormTaken last origin mode t d new.rest u → FormsTaken last origin mode s text p u new.rest new.place
unfolding next_later
leads_more names more last origin mode s text p t old new d u e f l r g = record {
  under = λ later x j h.
      let all = Extends-then more last later f x in
      l.under later (Extends-then names more later e all) j
      (form_taken t old.rest old.place d new.rest u j (next_later more later old.rest old.place d new.rest all r.reads)
      (form_taken_later last later origin mode t d new.rest u x (good_stays more last d f (next_good more old.rest old.place d new.rest r.reads)) g)
      (subst (λ q. Judges later origin mode u new.rest q j) r.place h));
}

-- all forms
pub leads_end : (names more : List (List ℕ)) (origin : Origin) (mode : Mode) (s : Tables) (text : List ℕ) (p : Place) (t : Tables) (old new : ReaderState) →
    Extends names more → FormsTaken names origin mode s text p t old.rest old.place → IsEnded old new → Judges more origin mode s text p (all_taken t)
leads_end names more origin mode s text p t old new e l r = l.under more e (all_taken t) (at_end t old.rest old.place r.is_gap)

-- the text stops
pub leads_stop : (names more : List (List ℕ)) (origin : Origin) (mode : Mode) (s : Tables) (text : List ℕ) (p : Place) (t : Tables) (old new : ReaderState) (stop : Stop) →
    Extends names more → old.stop ≡ None → FormsTaken names origin mode s text p t old.rest old.place → IsReaderStopped old new stop → JudgesStop more origin mode s text p stop
leads_stop names more origin mode s text p t old new NoMemory e fresh l h = tt
leads_stop names more origin mode s text p t old new (Refused r) e fresh l h =
    l.under more e _ (text_stops t old.rest old.place r (h.stops fresh))

-- a form is refused
pub leads_refused : (names more last : List (List ℕ)) (origin : Origin) (mode : Mode) (s : Tables) (text : List ℕ) (p : Place) (t : Tables) (old new : ReaderState) (d : Item) (stop : Stop) →
    Extends names more → Extends more last → FormsTaken names origin mode s text p t old.rest old.place → IsRead more old new d →
    FormStops last origin mode t d new.rest stop → JudgesStop last origin mode s text p stop
leads_refused names more last origin mode s text p t old new d NoMemory e f l r g = tt
leads_refused names more last origin mode s text p t old new d (Refused x) e f l r g =
    l.under last (Extends-then names more last e f) _
    (form_refused t old.rest old.place d new.rest x (next_later more last old.rest old.place d new.rest f r.reads) g)

-- a datum, with the form that is judged for it
pub was_taken : {T E : Type 0} (r : Result T E) (old names more : List (List ℕ)) (origin : Origin) (mode : Mode) (s : Tables) (d : Item) (after : List ℕ) (form : Item) (t : Tables) →
    Extends old names → Extends names more → WellFormed (length old) d → IsForm names mode d after form → OnOk r (IsTaken more origin (opened s) form t) →
    OnOk r (FormTaken more origin mode s d after t)
was_taken (Ok x) old names more origin mode s d after form t e f good is taken = record {
  form = form;
  is_form = form_later names more mode d after form f (good_stays old names d e good) is;
  taken = taken;
}
was_taken (Err x) old names more origin mode s d after form t e f good is taken = tt

has_stopped : (old names more : List (List ℕ)) (origin : Origin) (mode : Mode) (s : Tables) (d : Item) (after : List ℕ) (form : Item) (stop : Stop) →
    Extends old names → Extends names more → WellFormed (length old) d → IsForm names mode d after form → IsFormStopped more origin (opened s) form stop →
    FormStops more origin mode s d after stop
has_stopped old names more origin mode s d after form NoMemory e f good is h = tt
has_stopped old names more origin mode s d after form (Refused r) e f good is h = record {
  form = form;
  is_form = form_later names more mode d after form f (good_stays old names d e good) is;
  refused = h;
}

pub was_stopped : {T : Type 0} (r : Result T Stop) (old names more : List (List ℕ)) (origin : Origin) (mode : Mode) (s : Tables) (d : Item) (after : List ℕ) (form : Item) →
    Extends old names → Extends names more → WellFormed (length old) d → IsForm names mode d after form → IfErr r (IsFormStopped more origin (opened s) form) →
    IfErr r (FormStops more origin mode s d after)
was_stopped (Ok x) old names more origin mode s d after form e f good is h = tt
was_stopped (Err x) old names more origin mode s d after form e f good is h = has_stopped old names more origin mode s d after form x e f good is h
