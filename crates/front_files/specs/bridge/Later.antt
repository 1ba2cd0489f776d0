-- What is said of forms under a table of names is said of them under every later one.
use Rattle.std.specs.Prelude.{◌≡◌, ℕ, List, length, refl}
use Rattle.std.proofs.Common.{ap, sym, ◌∙◌, inl, inr, ⊎_elim}
use Rattle.base.specs.declared.origin.Origin.{Origin}
use Rattle.base.specs.declared.place.Place.{Place}
use Rattle.base.specs.declared.reason.Refusal.{Refusal}
use Rattle.base.specs.declared.reason.Stop.TheVariants.{Refused}
use Rattle.base.specs.Names.{Extends, Extends-then, text_stays}
use Rattle.base.specs.Data.{Item, item, integer, character, symbol, string, vector, nil, list, Items, no_item, item_and}
use Rattle.base.specs.DataNames.{text_same}
use Rattle.base.specs.DataMeasures.{NamesBelow, AllNamesBelow}
use Rattle.base.specs.WellFormedData.{WellFormed}
use Rattle.front_profile.specs.declared.tables.Tables.{Tables}
use Rattle.front_profile.specs.Nodes.{StaticContext, Verdict}
use Rattle.front_profile.specs.Promises.{FormComes}
use Rattle.front_reader.specs.bridge.LaterReads.{next_later}
use Rattle.front_reader.specs.bridge.WellFormedReads.{next_good}
use Rattle.front_profile.specs.Cuts.{opened}
use Rattle.front_scope.specs.Scopes.{IsElaborated, IsTaken, IsTooLarge, HasManyCells, IsRefusedWhole, IsFormStopped}
use Rattle.front_files.specs.declared.mode.Mode.{Mode}
use Rattle.front_files.specs.Shown.{first_text, head_text, not_shown, is_among, stays, IsPrinting, IsForm, runs, not_last, last_stays, last_shown}
use Rattle.front_files.specs.Verdicts.{FormTaken, FormRefused, Judgement, Judges, at_end, form_taken, form_refused, text_stops}
use Rattle.front_files.specs.WithoutMacros.{TextLeaves}
use Rattle.front_files.specs.bridge.Leaving.{JudgesLeaving}

-- the form that is judged

first_text_later : (old new : List (List ℕ)) (ds : Items) → Extends old new → AllNamesBelow (length old) ds → first_text old ds ≡ first_text new ds
unfolding NamesBelow
first_text_later old new no_item e h = refl
first_text_later old new (item_and d ds) e h = text_same old new e d h.0

head_later : (old new : List (List ℕ)) (d : Item) → Extends old new → NamesBelow (length old) d → head_text old d ≡ head_text new d
unfolding NamesBelow
head_later old new (item p (integer n)) e h = refl
head_later old new (item p (character n)) e h = refl
head_later old new (item p (symbol s)) e h = refl
head_later old new (item p (string bytes)) e h = refl
head_later old new (item p (vector ds)) e h = refl
head_later old new (item p nil) e h = refl
head_later old new (item p (list ds t)) e h = first_text_later old new ds e h.0

pub stays_later : (old new : List (List ℕ)) (d : Item) → Extends old new → WellFormed (length old) d → stays old d ≡ stays new d
unfolding stays
stays_later old new d e g = ap (λ t. is_among not_shown t) (head_later old new d e g.named)

printing_later : (old new : List (List ℕ)) (d f : Item) → Extends old new → IsPrinting old d f → IsPrinting new d f
printing_later old new d f e p = record {
  format = p.format;
  standard_output = p.standard_output;
  is_format = text_stays old new _ _ e p.is_format;
  is_standard_output = text_stays old new _ _ e p.is_standard_output;
  is = p.is;
}

pub form_later : (old new : List (List ℕ)) (mode : Mode) (d : Item) (after : List ℕ) (f : Item) → Extends old new → WellFormed (length old) d →
    IsForm old mode d after f → IsForm new mode d after f
form_later old new mode d after f e g (runs x y) = runs x y
form_later old new mode d after f e g (not_last x y n) = not_last x y n
form_later old new mode d after f e g (last_stays x y s) = last_stays x y (sym (stays_later old new x e g) ∙ s)
form_later old new mode d after f e g (last_shown x y z gap s p) = last_shown x y z gap (sym (stays_later old new x e g) ∙ s) (printing_later old new x z e p)

-- what it comes to

comes_later : (old new : List (List ℕ)) (a : StaticContext) (s : Tables) (d : Item) (v : Verdict) → Extends old new → FormComes old a s d v → FormComes new a s d v
comes_later old new a s d v e c = record { under = λ later y. c.under later (Extends-then old new later e y) }

given_later : (old new : List (List ℕ)) (origin : Origin) (s : Tables) (d : Item) (t : Tables) → Extends old new → IsElaborated old origin s d t → IsElaborated new origin s d t
given_later old new origin s d t e g = record { form = g.form; found = g.found; comes = comes_later old new _ s d _ e g.comes; now = g.now }

taken_later : (old new : List (List ℕ)) (origin : Origin) (s : Tables) (d : Item) (t : Tables) → Extends old new → IsTaken old origin s d t → IsTaken new origin s d t
taken_later old new origin s d t e g = record { given = given_later old new origin s d t e g.given; small = g.small; few = g.few }

large_later : (old new : List (List ℕ)) (origin : Origin) (s : Tables) (d : Item) → Extends old new → IsTooLarge old origin s d → IsTooLarge new origin s d
large_later old new origin s d e g = record { tables = g.tables; given = given_later old new origin s d g.tables e g.given; large = g.large }

many_later : (old new : List (List ℕ)) (origin : Origin) (s : Tables) (d : Item) → Extends old new → HasManyCells old origin s d → HasManyCells new origin s d
many_later old new origin s d e g = record { tables = g.tables; given = given_later old new origin s d g.tables e g.given; small = g.small; many = g.many }

whole_later : (old new : List (List ℕ)) (origin : Origin) (s : Tables) (d : Item) (r : Refusal) → Extends old new →
    IsRefusedWhole old origin s d r → IsRefusedWhole new origin s d r
whole_later old new origin s d r e h =
    ⊎_elim (λ l. inl (large_later old new origin s d e l.0, l.1)) (λ m. inr (many_later old new origin s d e m.0, m.1)) h

stopped_later : (old new : List (List ℕ)) (origin : Origin) (s : Tables) (d : Item) (r : Refusal) → Extends old new →
    IsFormStopped old origin s d (Refused r) → IsFormStopped new origin s d (Refused r)
stopped_later old new origin s d r e h =
    ⊎_elim (λ c. inl (comes_later old new _ s d _ e c)) (λ w. inr (whole_later old new origin s d r e w)) h

pub form_taken_later : (old new : List (List ℕ)) (origin : Origin) (mode : Mode) (s : Tables) (d : Item) (after : List ℕ) (t : Tables) → Extends old new →
    WellFormed (length old) d → FormTaken old origin mode s d after t → FormTaken new origin mode s d after t
form_taken_later old new origin mode s d after t e g f = record {
  form = f.form;
  is_form = form_later old new mode d after f.form e g f.is_form;
  taken = taken_later old new origin (opened s) f.form t e f.taken;
}

pub form_refused_later : (old new : List (List ℕ)) (origin : Origin) (mode : Mode) (s : Tables) (d : Item) (after : List ℕ) (r : Refusal) → Extends old new →
    WellFormed (length old) d → FormRefused old origin mode s d after r → FormRefused new origin mode s d after r
form_refused_later old new origin mode s d after r e g f = record {
  form = f.form;
  is_form = form_later old new mode d after f.form e g f.is_form;
  refused = stopped_later old new origin (opened s) f.form r e f.refused;
}

pub judges_later : (old new : List (List ℕ)) (origin : Origin) (mode : Mode) (s : Tables) (text : List ℕ) (p : Place) (j : Judgement) → Extends old new →
    Judges old origin mode s text p j → Judges new origin mode s text p j
unfolding next_later
judges_later old new origin mode s text p j e (at_end s2 text2 p2 g) = at_end s2 text2 p2 g
judges_later old new origin mode s text p j e (form_taken s2 text2 p2 d after t j2 r f rest) =
    form_taken s2 text2 p2 d after t j2 (next_later old new text2 p2 d after e r)
    (form_taken_later old new origin mode s2 d after t e (next_good old text2 p2 d after r) f)
    (judges_later old new origin mode t after _ j2 e rest)
judges_later old new origin mode s text p j e (form_refused s2 text2 p2 d after x r f) =
    form_refused s2 text2 p2 d after x (next_later old new text2 p2 d after e r)
    (form_refused_later old new origin mode s2 d after x e (next_good old text2 p2 d after r) f)
judges_later old new origin mode s text p j e (text_stops s2 text2 p2 r x) = text_stops s2 text2 p2 r x

-- what tables are left stays, too

pub leaving_later : (Such : Tables → Type 0) (old new : List (List ℕ)) (origin : Origin) (mode : Mode) (s : Tables) (text : List ℕ) (p : Place) (j : Judgement) → Extends old new →
    (g : Judges old origin mode s text p j) → TextLeaves Such old origin mode s text p j g → JudgesLeaving Such new origin mode s text p j
unfolding next_later
leaving_later Such old new origin mode s text p j e (at_end s2 text2 p2 g) l = record { judges = at_end s2 text2 p2 g; leaves = l }
leaving_later Such old new origin mode s text p j e (form_taken s2 text2 p2 d after t j2 r f rest) l =
    let more = leaving_later Such old new origin mode t after _ j2 e rest l in
    record {
      judges =
          form_taken s2 text2 p2 d after t j2 (next_later old new text2 p2 d after e r)
          (form_taken_later old new origin mode s2 d after t e (next_good old text2 p2 d after r) f)
          more.judges;
      leaves = more.leaves;
    }
leaving_later Such old new origin mode s text p j e (form_refused s2 text2 p2 d after x r f) l = record {
  judges =
      form_refused s2 text2 p2 d after x (next_later old new text2 p2 d after e r)
      (form_refused_later old new origin mode s2 d after x e (next_good old text2 p2 d after r) f);
  leaves = l;
}
leaving_later Such old new origin mode s text p j e (text_stops s2 text2 p2 r x) l = record { judges = text_stops s2 text2 p2 r x; leaves = l }
