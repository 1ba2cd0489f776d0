-- What a step of reading, and reading to the first whole datum, lead to.
use Rattle.std.specs.Prelude.{◌≡◌, ◌<◌, ℕ, List, [], ◌∷◌, ◌++◌, length, reverse, Option, Some, None, Result, Ok, Err}
use Rattle.base.specs.declared.place.Place.{Place}
use Rattle.base.specs.declared.reason.Stop.{Stop}
use Rattle.base.specs.declared.reason.Stop.TheVariants.{Refused, NoMemory}
use Rattle.base.specs.Data.{Item}
use Rattle.front_reader.specs.declared.cursor.Cursor.{Cursor}
use Rattle.front_reader.specs.declared.pending.Pending.{Pending}
use Rattle.front_reader.specs.declared.step.Turn.{Turn}
use Rattle.front_reader.specs.declared.step.Turn.TheVariants.{Goes, Whole, Ends}
use Rattle.front_reader.specs.bridge.Lexemes.{lex}
use Rattle.front_reader.specs.Meanings.{number_in}
use Rattle.front_reader.specs.bridge.Machine.{LexemeState, finished, stopped, LexemeStep, next, over, by_lexed, step, LexemeSteps}
use Rattle.front_reader.specs.Readers.{PlacesFit}

-- the step goes to this result, with these data open then, the outermost first
abbrev pub LeadsTo : LexemeStep → List Item → Result Turn Stop → List Pending → Type 0
LeadsTo x done (Ok (Goes c)) os =
    x ≡ next (record { rest = c.rest.now; place = c.place; done = done; pending = reverse os })
LeadsTo x done (Ok (Whole c d)) os =
    x ≡ next (record { rest = c.rest.now; place = c.place; done = done ++ d ∷ []; pending = [] })
LeadsTo x done (Ok Ends) os = x ≡ over (finished done)
LeadsTo x done (Err (Refused r)) os = (left : List ℕ) × (x ≡ over (stopped r.place r.reason left))
LeadsTo x done (Err NoMemory) os = Unit {0}

abbrev pub TurnLeads : (List ℕ → Option ℕ) → LexemeState → Result Turn Stop → List Pending → Type 0
TurnLeads number s result os = LeadsTo (step number s) s.done result os

abbrev pub LeadsLexed : (List ℕ → Option ℕ) → LexemeState → Result Turn Stop → List Pending → Type 0
LeadsLexed number s result os = LeadsTo (by_lexed number s (lex s.rest)) s.done result os

-- fewer bytes than n are left, and their places fit
abbrev pub ReadingGoesOn : ℕ → Turn → Type 0
ReadingGoesOn n (Goes c) = PlacesFit c.place c.rest.now × (length c.rest.now < n)
ReadingGoesOn n (Whole c d) = PlacesFit c.place c.rest.now × (length c.rest.now < n)
ReadingGoesOn n Ends = Unit {0}

-- the text up to a state is read, and nothing is whole
abbrev pub ReadTo : (List ℕ → Option ℕ) → List ℕ → Place → LexemeState → Type 0
ReadTo number text p s = LexemeSteps number (record { rest = text; place = p; done = []; pending = [] }) s

-- reading a text leads to its first datum, to its end, or to a stop
abbrev pub DatumFound : List (List ℕ) → List ℕ → Place → Result (Option (Cursor × Item)) Stop → Type 0
DatumFound names text p (Ok (Some f)) =
    ReadTo (number_in names) text p (record { rest = f.0.rest.now; place = f.0.place; done = f.1 ∷ []; pending = [] })
    × PlacesFit f.0.place f.0.rest.now
DatumFound names text p (Ok None) =
    (s : LexemeState) × (ReadTo (number_in names) text p s × (s.done ≡ []) × (step (number_in names) s ≡ over (finished [])))
DatumFound names text p (Err (Refused r)) =
    (s : LexemeState) × ((left : List ℕ) × (ReadTo (number_in names) text p s × (s.done ≡ []) × (step (number_in names) s ≡ over (stopped r.place r.reason left))))
DatumFound names text p (Err NoMemory) = Unit {0}
