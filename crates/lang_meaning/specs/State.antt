-- What an evaluation changes, what surrounds it (ISO/IEC 13816:2007, 11, 14.3, 14.8 and 29.2), and what it comes
-- to. Units and words, the charges of this profile, stand at the end.
use Rattle.std.specs.Prelude.{ℕ, ◌+◌, ◌-◌, ◌==◌, Bool, true, nat_le, max, List, [], ◌∷◌, ◌++◌, length, slice_set, if◌then◌else◌}
use Rattle.base.specs.declared.place.Place.{Place}
use Rattle.lang_meaning.specs.Values.{Value, object}
use Rattle.lang_meaning.specs.Objects.{Object}

-- the state: the store of all objects made, the variables, the global variables and the outermost dynamic
-- values by their names, the input left, the bytes printed, how many exits and fresh symbols were made, the
-- numbers of those exits, the last one first, and the charges: units, the words of the heap, those of the stack, and the most of both together
pub record State : Type 0 where
  pub store : List Object
  pub variables : List Value
  pub globals : List (List ℕ × Value)
  pub dynamics : List (List ℕ × Value)
  pub input : List ℕ
  pub printed : List ℕ
  pub exits : ℕ
  pub made : List ℕ
  pub symbols : ℕ
  pub units : ℕ
  pub heap : ℕ
  pub stack : ℕ
  pub peak : ℕ

-- the state before the first form; exit 0 is there from the start
abbrev pub first_state : List Object → List ℕ → State
first_state objects input = record {
  store = objects;
  variables = [];
  globals = [];
  dynamics = [];
  input = input;
  printed = [];
  exits = 1;
  made = 0 ∷ [];
  symbols = 0;
  units = 0;
  heap = 0;
  stack = 0;
  peak = 0;
}

-- the kinds of exits (ISO/IEC 13816:2007, 14.8.1): those of blocks, tagbodies, catches with their tag,
-- signals with their condition and mark, and the end of the program
pub data ExitKind : Type 0 where
  block_exit : ExitKind
  tagbody_exit : ExitKind
  catch_exit : Value → ExitKind
  signal_exit : Value → Value → ExitKind
  end_exit : ExitKind

pub record Exit : Type 0 where
  pub number : ℕ
  pub kind : ExitKind

-- the dynamic context, innermost first: dynamic bindings (name and variable), handlers, valid exits; and the
-- site, which is the place of the innermost form of the file
pub record DynamicContext : Type 0 where
  pub bindings : List (List ℕ × ℕ)
  pub handlers : List Value
  pub exits : List Exit
  pub site : Place

abbrev pub no_place : Place
no_place = record { line = 0; column = 0 }

-- the dynamic context of a main form
abbrev pub main_context : DynamicContext
main_context = record {
  bindings = [];
  handlers = [];
  exits = record { number = 0; kind = end_exit } ∷ [];
  site = no_place;
}

-- where a transfer arrives: at a segment of its form, or, for exit 0, at no form but with the site
pub data Landing : Type 0 where
  at_segment : ℕ → Landing
  at_site : Place → Landing

pub data Outcome : Type 0 where
  value : Value → Outcome
  -- a transfer to an exit, with a value
  exit : (exit : ℕ) → Value → Landing → Outcome
  -- a request for words that does not fit, and what was left
  full : (asked left : ℕ) → Outcome
  -- the levels ran out
  more : Outcome

pub record Evaluated : Type 0 where
  pub outcome : Outcome
  pub state : State

abbrev pub gives : Value → State → Evaluated
gives v z = record { outcome = value v; state = z }

-- a transfer
abbrev pub leaves : ℕ → Value → Landing → State → Evaluated
leaves e v landing z = record { outcome = exit e v landing; state = z }

-- what is evaluated in a dynamic context
abbrev pub Act : Type 0
Act = DynamicContext → State → Evaluated

-- a part whose outcome is no value ends the form with that outcome
abbrev pub go_on_from : Outcome → State → (Value → State → Evaluated) → Evaluated
go_on_from (value v) z next = next v z
go_on_from (exit e v landing) z next = record { outcome = exit e v landing; state = z }
go_on_from (full asked left) z next = record { outcome = full asked left; state = z }
go_on_from more z next = record { outcome = more; state = z }

abbrev pub go_on : Evaluated → (Value → State → Evaluated) → Evaluated
go_on r next = go_on_from r.outcome r.state next

-- a form with an exit: what a transfer to it does, with its value and its landing
abbrev pub landed_from : ℕ → (Value → Landing → State → Evaluated) → Outcome → State → Evaluated
landed_from e land (value v) z = record { outcome = value v; state = z }
landed_from e land (exit x v landing) z =
    if x == e then land v landing z else record { outcome = exit x v landing; state = z }
landed_from e land (full asked left) z = record { outcome = full asked left; state = z }
landed_from e land more z = record { outcome = more; state = z }

abbrev pub landed : ℕ → (Value → Landing → State → Evaluated) → Evaluated → Evaluated
landed e land r = landed_from e land r.outcome r.state

-- a transfer to the exit gives its value
abbrev pub caught : ℕ → Evaluated → Evaluated
caught e r = landed e (λ v landing z. gives v z) r

-- the exits from that one on: those inside it are no longer valid (ISO/IEC 13816:2007, 14.8.1)
abbrev pub exits_from : ℕ → List Exit → List Exit
exits_from e [] = []
exits_from e (x ∷ xs) = if x.number == e then x ∷ xs else exits_from e xs

-- a cleanup (ISO/IEC 13816:2007, 14.8.2): after a value it runs in the same dynamic context, during a transfer
-- with the exits inside the target taken away; what it comes to itself replaces the rest, unless it is a value
abbrev pub cleaned_from : Act → DynamicContext → Outcome → State → Evaluated
cleaned_from cleanup around (value v) z = go_on (cleanup around z) (λ w after. gives v after)
cleaned_from cleanup around (exit e v landing) z =
    go_on (cleanup (record around { exits = exits_from e around.exits }) z) (λ w after. leaves e v landing after)
cleaned_from cleanup around (full asked left) z = record { outcome = full asked left; state = z }
cleaned_from cleanup around more z = record { outcome = more; state = z }

abbrev pub cleaned : Act → DynamicContext → Evaluated → Evaluated
cleaned cleanup around r = cleaned_from cleanup around r.outcome r.state

-- exits

-- a fresh exit, innermost
abbrev pub inside : ExitKind → DynamicContext → State → DynamicContext
inside kind around z = record around { exits = record { number = z.exits; kind = kind } ∷ around.exits }

-- one exit more was made, with the number to which the exits had come
abbrev pub exit_made : State → State
exit_made z = record z { exits = z.exits + 1; made = z.exits ∷ z.made }

-- charges

-- how many words there are: a number, or more than any request
pub data Limit : Type 0 where
  words : ℕ → Limit
  unlimited : Limit

abbrev pub has_room : Limit → ℕ → Bool
has_room (words w) n = nat_le n w
has_room unlimited n = true

abbrev pub room_left : Limit → ℕ → ℕ
room_left (words w) used = w - used
room_left unlimited used = 0

-- units counted
abbrev pub charged : ℕ → State → State
charged n z = record z { units = z.units + n }

-- words of the heap and of the stack, and the most of both together
abbrev pub with_words : ℕ → ℕ → State → State
with_words heap stack z = record z {
  heap = z.heap + heap;
  stack = z.stack + stack;
  peak = max z.peak (z.heap + z.stack + heap + stack);
}

-- a request of words of the heap and of the stack: Full where heap and stack would pass the limit, and
-- then nothing else changes
abbrev pub request : Limit → ℕ → ℕ → State → (State → Evaluated) → Evaluated
request limit heap stack z next =
    if has_room limit (z.heap + z.stack + heap + stack) then next (with_words heap stack z)
    else record { outcome = full (heap + stack) (room_left limit (z.heap + z.stack)); state = z }

-- an object more
abbrev pub stored : Object → State → State
stored made z = record z { store = z.store ++ made ∷ [] }

-- an object is changed
abbrev pub changed : ℕ → Object → State → State
changed i now z = record z { store = slice_set z.store i now }

-- an object of so many words is made: one unit for each word, and so many besides
abbrev pub make : Limit → (size besides : ℕ) → Object → State → (Value → State → Evaluated) → Evaluated
make limit size besides made z next =
    request limit size 0 z (λ entered.
    next (object (length entered.store)) (stored made (charged (size + besides) entered)))

-- the words of the stack as before, when an application is left
abbrev pub with_stack : ℕ → Evaluated → Evaluated
with_stack stack r = record { outcome = r.outcome; state = record r.state { stack = stack } }

-- what goes on in an application of so many words, which are given back when it is left
abbrev pub in_frame : Limit → ℕ → (State → Evaluated) → State → Evaluated
in_frame limit size body z = request limit 0 size z (λ entered. with_stack z.stack (body entered))
