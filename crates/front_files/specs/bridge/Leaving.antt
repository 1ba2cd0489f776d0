-- What is left behind the last form that is taken: where tables of a sort stand in front of each form behind which they stand, they stand in front of
-- the whole text.
use Rattle.std.specs.Prelude.{ℕ, List}
use Rattle.base.specs.declared.origin.Origin.{Origin}
use Rattle.base.specs.declared.place.Place.{Place}
use Rattle.base.specs.Data.{Item}
use Rattle.front_profile.specs.declared.tables.Tables.{Tables}
use Rattle.front_profile.specs.Cuts.{opened}
use Rattle.front_scope.specs.Scopes.{IsElaborated}
use Rattle.front_files.specs.declared.mode.Mode.{Mode}
use Rattle.front_files.specs.Verdicts.{Judgement, all_taken, one_refused, Judges, at_end, form_taken, form_refused, text_stops, behind_next, BehindPrelude}
use Rattle.front_files.specs.WithoutMacros.{TextLeaves, PreludeLeaves}

-- a text is judged, and leaves such tables; and so a prelude

pub record JudgesLeaving (Such : Tables → Type 0) (names : List (List ℕ)) (origin : Origin) (mode : Mode) (s : Tables) (text : List ℕ) (p : Place) (j : Judgement) : Type 0 where
  pub judges : Judges names origin mode s text p j
  pub leaves : TextLeaves Such names origin mode s text p j judges

pub record PreludeLeaving (Such : Tables → Type 0) (names : List (List ℕ)) (prelude : List ℕ) (j : Judgement) : Type 0 where
  pub behind : BehindPrelude names prelude j
  pub leaves : PreludeLeaves Such names prelude j behind

module _ (Such : Tables → Type 0) (names : List (List ℕ)) where
  -- in front of a form behind which such tables stand they stand, too
  abbrev pub StandBefore : Type 0
  StandBefore = (origin : Origin) (s : Tables) (d : Item) (t : Tables) → Such t → IsElaborated names origin (opened s) d t → Such s

  pub front_such : StandBefore → (origin : Origin) (mode : Mode) (s : Tables) (text : List ℕ) (p : Place) (j : Judgement) →
      (g : Judges names origin mode s text p j) → TextLeaves Such names origin mode s text p j g → Such s
  front_such before origin mode s text p j (at_end s1 x1 p1 g) l = l
  front_such before origin mode s text p j (form_taken s1 x1 p1 d after t j1 r f rest) l =
      before origin s1 f.form t (front_such before origin mode t after (behind_next names x1 p1 d after r) j1 rest l) f.taken.given
  front_such before origin mode s text p j (form_refused s1 x1 p1 d after x r f) l = l
  front_such before origin mode s text p j (text_stops s1 x1 p1 x h) l = l

  -- the tables that a text gives are those behind its last form

  abbrev pub GivesSuch : Judgement → Type 0
  GivesSuch (all_taken t) = Such t
  GivesSuch (one_refused r) = ⊥

  pub text_leaves : (origin : Origin) (mode : Mode) (s : Tables) (text : List ℕ) (p : Place) (j : Judgement) →
      (g : Judges names origin mode s text p j) → GivesSuch j → TextLeaves Such names origin mode s text p j g
  text_leaves origin mode s text p j (at_end s1 x1 p1 g) l = l
  text_leaves origin mode s text p j (form_taken s1 x1 p1 d after t j1 r f rest) l = text_leaves origin mode t after (behind_next names x1 p1 d after r) j1 rest l
  text_leaves origin mode s text p j (form_refused s1 x1 p1 d after x r f) l = absurd l
  text_leaves origin mode s text p j (text_stops s1 x1 p1 x h) l = absurd l
