-- The bridge between the grammar and the code: a text read lexeme by lexeme, with the data that are open.
-- The grammar knows nothing of this file; proofs/ shows that both say the same.
use Rattle.std.specs.Prelude.{◌≡◌, ℕ, nat_le, List as Seq, [], ◌∷◌, ◌++◌, length, take, drop, Option, Some, None, if◌then◌else◌}
use Rattle.base.specs.declared.place.Place.{Place}
use Rattle.base.specs.declared.reason.Reason.{Reason}
use Rattle.base.specs.declared.reason.Reason.TheVariants.{UnclosedList, UnclosedComment, StrayClose, BadDot, NestTooDeep}
use Rattle.base.specs.Data.{Item, item, Content, vector, items_of}
use Rattle.front_reader.specs.declared.opening.Opening.{Opening}
use Rattle.front_reader.specs.declared.opening.Opening.TheVariants.{List, Vector, Before}
use Rattle.front_reader.specs.declared.lexeme.Lexeme.{Lexeme}
use Rattle.front_reader.specs.declared.lexeme.Lexeme.TheVariants.{Close, Dot, Open, Integer, Character, Token, Bar, Text}
use Rattle.front_reader.specs.declared.lexeme.Lexed.{Lexed}
use Rattle.front_reader.specs.declared.lexeme.Lexed.TheVariants.{Taken, Fault}
use Rattle.front_reader.specs.declared.gap.Mode.TheVariants.{Between}
use Rattle.front_reader.specs.declared.gap.Skipped.{Skipped}
use Rattle.front_reader.specs.declared.gap.Skipped.TheVariants.{Ends, OpenFrom}
use Rattle.front_reader.specs.declared.pending.Pending.{Pending}
use Rattle.front_reader.specs.declared.pending.Pending.TheVariants.{InList, AtDot, AtTail, InVector, AtPrefix}
use Rattle.front_reader.specs.Characters.{place_behind}
use Rattle.front_reader.specs.Atoms.{Atom}
use Rattle.front_reader.specs.Meanings.{atom_content, prefix_name, list_content, joined, prefix_item}
use Rattle.front_reader.specs.bridge.Lexemes.{skip, lex, atom_of}

-- what is left of a text and its place, the data so far, and those that are open, the innermost first
pub record LexemeState : Type 0 where
  pub rest : Seq ℕ
  pub place : Place
  pub done : Seq Item
  pub pending : Seq Pending

-- the text ends; it stops at a place with a reason, where so much is left; or a name has no number
pub data LexemesEnd : Type 0 where
  finished : Seq Item → LexemesEnd
  stopped : Place → Reason → Seq ℕ → LexemesEnd
  unknown : LexemesEnd

pub data LexemeStep : Type 0 where
  next : LexemeState → LexemeStep
  over : LexemesEnd → LexemeStep

-- behind n bytes more
abbrev pub moved : ℕ → LexemeState → LexemeState
moved n s = record s { rest = drop n s.rest; place = place_behind s.place (take n s.rest) }

-- a whole datum joins the innermost open one; a prefix makes a datum of it, which joins the next
unfoldable pub put_in : Seq ℕ → Place → Seq Item → Seq Pending → Item → LexemeState
put_in r p done [] d = record { rest = r; place = p; done = done ++ d ∷ []; pending = [] }
put_in r p done (AtPrefix q n ∷ os) d = put_in r p done os (prefix_item q n.0 d)
put_in r p done (InList q ds ∷ os) d =
    record { rest = r; place = p; done = done; pending = InList q (ds ++ d ∷ []) ∷ os }
put_in r p done (InVector q ds ∷ os) d =
    record { rest = r; place = p; done = done; pending = InVector q (ds ++ d ∷ []) ∷ os }
put_in r p done (AtDot q ds at ∷ os) d =
    record { rest = r; place = p; done = done; pending = AtTail q ds at d ∷ os }
put_in r p done (AtTail q ds at e ∷ os) d =
    record { rest = r; place = p; done = done; pending = AtTail q ds at e ∷ os }

abbrev pub put : LexemeState → Seq Pending → Item → LexemeStep
put s os d = next (put_in s.rest s.place s.done os d)

-- the place of the dot behind whose one datum nothing more may come
abbrev pub full_dot : Seq Pending → Option Place
full_dot [] = None
full_dot (InList q ds ∷ os) = None
full_dot (InVector q ds ∷ os) = None
full_dot (AtDot q ds at ∷ os) = None
full_dot (AtTail q ds at e ∷ os) = Some at
full_dot (AtPrefix q n ∷ os) = None

abbrev pub pending_place : Pending → Place
pending_place (InList q ds) = q
pending_place (InVector q ds) = q
pending_place (AtDot q ds at) = q
pending_place (AtTail q ds at e) = q
pending_place (AtPrefix q n) = q

-- the text ends
abbrev pub ending : Seq Item → Seq Pending → LexemeStep
ending done [] = over (finished done)
ending done (o ∷ os) = over (stopped (pending_place o) UnclosedList [])

-- a `)` at place p, where r is the text from it on
abbrev pub closing : LexemeState → Place → Seq ℕ → Seq Pending → LexemeStep
closing s p r [] = over (stopped p StrayClose r)
closing s p r (AtPrefix q n ∷ os) = over (stopped p StrayClose r)
closing s p r (InList q ds ∷ os) = put s os (item q (list_content ds))
closing s p r (InVector q ds ∷ os) = put s os (item q (vector (items_of ds)))
closing s p r (AtDot q ds at ∷ os) = over (stopped at BadDot r)
closing s p r (AtTail q ds at d ∷ os) = put s os (item q (joined ds d))

-- a dot
abbrev pub dot_step : LexemeState → Place → Seq ℕ → Seq Pending → LexemeStep
dot_step s p r [] = over (stopped p BadDot r)
dot_step s p r (InList q [] ∷ os) = over (stopped p BadDot r)
dot_step s p r (InList q (d ∷ ds) ∷ os) = next (record s { pending = AtDot q (d ∷ ds) p ∷ os })
dot_step s p r (AtDot q ds at ∷ os) = over (stopped p BadDot r)
dot_step s p r (AtTail q ds at d ∷ os) = over (stopped p BadDot r)
dot_step s p r (InVector q ds ∷ os) = over (stopped p BadDot r)
dot_step s p r (AtPrefix q n ∷ os) = over (stopped p BadDot r)

-- an opening
abbrev pub prefix_step : LexemeState → Place → Option ℕ → LexemeStep
prefix_step s p None = over unknown
prefix_step s p (Some n) = next (record s { pending = AtPrefix p (record { 0 = n }) ∷ s.pending })

abbrev pub opened : (Seq ℕ → Option ℕ) → LexemeState → Place → Opening → LexemeStep
opened number s p List = next (record s { pending = InList p [] ∷ s.pending })
opened number s p Vector = next (record s { pending = InVector p [] ∷ s.pending })
opened number s p (Before x) = prefix_step s p (number (prefix_name x))

abbrev pub unless_full : Option Place → Seq ℕ → LexemeStep → LexemeStep
unless_full None r step = step
unless_full (Some at) r step = over (stopped at BadDot r)

abbrev pub opening_step : (Seq ℕ → Option ℕ) → LexemeState → Place → Seq ℕ → Opening → LexemeStep
opening_step number s p r o =
    if nat_le 256 (length s.pending) then over (stopped p NestTooDeep r)
    else unless_full (full_dot s.pending) r (opened number s p o)

-- an atom
abbrev pub content_step : LexemeState → Place → Option Content → LexemeStep
content_step s p None = over unknown
content_step s p (Some c) = put s s.pending (item p c)

abbrev pub atom_step : (Seq ℕ → Option ℕ) → LexemeState → Place → Seq ℕ → Option Atom → LexemeStep
atom_step number s p r None = over unknown
atom_step number s p r (Some a) =
    unless_full (full_dot s.pending) r (content_step s p (atom_content number a))

-- a lexeme of the bytes w at place p; s stands behind it
abbrev pub act : (Seq ℕ → Option ℕ) → LexemeState → Place → Seq ℕ → Seq ℕ → Lexeme → LexemeStep
act number s p r w Close = closing s p r s.pending
act number s p r w Dot = dot_step s p r s.pending
act number s p r w (Open o) = opening_step number s p r o
act number s p r w (Integer n) = atom_step number s p r (atom_of (Integer n) w)
act number s p r w (Character c) = atom_step number s p r (atom_of (Character c) w)
act number s p r w Token = atom_step number s p r (atom_of Token w)
act number s p r w Bar = atom_step number s p r (atom_of Bar w)
act number s p r w Text = atom_step number s p r (atom_of Text w)

unfoldable pub by_lexed : (Seq ℕ → Option ℕ) → LexemeState → Lexed → LexemeStep
by_lexed number s (Fault k r) = over (stopped (place_behind s.place (take k s.rest)) r s.rest)
by_lexed number s (Taken n x) = act number (moved n s) s.place s.rest (take n s.rest) x

-- behind the gap
unfoldable pub by_rest : (Seq ℕ → Option ℕ) → LexemeState → Seq ℕ → LexemeStep
by_rest number s [] = ending s.done s.pending
by_rest number s (b ∷ bs) = by_lexed number s (lex (b ∷ bs))

unfoldable pub by_gap : (Seq ℕ → Option ℕ) → LexemeState → Skipped → LexemeStep
by_gap number s (OpenFrom n) =
    over (stopped (place_behind s.place (take n s.rest)) UnclosedComment (drop n s.rest))
by_gap number s (Ends n) = by_rest number (moved n s) (drop n s.rest)

-- a gap and a lexeme more
unfoldable pub step : (Seq ℕ → Option ℕ) → LexemeState → LexemeStep
step number s = by_gap number s (skip Between 0 0 s.rest)

-- from one state to another
pub data LexemeSteps (number : Seq ℕ → Option ℕ) : LexemeState → LexemeState → Type 0 where
  none : (s : LexemeState) → LexemeSteps number s s
  more : (s t u : LexemeState) → LexemeSteps number s t → step number t ≡ next u → LexemeSteps number s u
