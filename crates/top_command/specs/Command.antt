-- The command: `isl [--steps N] [--arena W] ACTION FILE`.
--
-- What words give to each of the four arguments, and which words are refused, is what the crate clap specifies of a simple
-- command (`fault_of` and `matches_of`): options may stand anywhere before `--`, once each, with their value behind
-- them or after `=`; behind `--` every word is an argument. There is no help and no version. N and W are one or more decimal
-- digits, and so is the FILE of `make`.
use Rattle.std.specs.Prelude.{ℕ, ◌+◌, ◌-◌, ◌*◌, Bool, true, ◌&&◌, nat_le, List, [], ◌∷◌, Option, Some, None, if◌then◌else◌, codes}
use Rattle.std.specs.Str.{bytes_eq}
use Rattle.std.specs.String.{string_bytes}
use Rattle.clap.specs.Walk.{Text, Rule, Row, first_of}
use Rattle.clap.specs.Simple.{App, new_app, new_rule, with_rule, on_top, matches_of}
use Rattle.clap.specs.Kinds.{Kinds}
use Rattle.clap.specs.Faults.{fault_of}
use Rattle.top_command.specs.Limits.{usual_steps, most_steps, usual_arena_words, least_arena_words, most_arena_words, most_made}
use Rattle.top_command.specs.declared.command.Command.{Command}
use Rattle.top_command.specs.declared.command.Action.{Action}
use Rattle.top_command.specs.declared.command.Action.TheVariants.{Run, Show, Check, Build, Exec, Plain, Make}

-- an option with one value, and a word that has to stand there
abbrev pub option : Text → Rule
option name = record (new_rule name) { long = Some name }

abbrev pub positional : Text → Rule
positional name = record (new_rule name) { required = true }

-- the command before its arguments: the words begin behind the program's name, and there is no help and no version
abbrev pub bare : App
bare = on_top (λ s. record s { no_binary_name = true; disable_help_flag = true; disable_version_flag = true }) (new_app (codes "isl"))

unfoldable pub isl : App
isl = with_rule (with_rule (with_rule (with_rule bare (option (codes "steps"))) (option (codes "arena"))) (positional (codes "action"))) (positional (codes "file"))

-- how clap refuses the words: none where it takes them
unfoldable pub refusals : List Text → Kinds
refusals words = fault_of isl words

-- what the words give to the arguments, where clap takes them
unfoldable pub given : List Text → List Row
given words = matches_of isl words

-- what a command asks for: what is done with a file, how many instructions a run may execute, or how many levels an evaluation may have,
-- and the words of its arena
pub record Request : Type 0 where
  pub action : Action
  pub steps : ℕ
  pub arena : ℕ
  pub file : Text

abbrev pub parts_of : Command → Request
parts_of c = record { action = c.action; steps = c.steps; arena = c.arena; file = string_bytes c.file }

-- the decimal number of digits behind those already read
abbrev pub is_digit : ℕ → Bool
is_digit b = nat_le 48 b && nat_le b 57

abbrev pub decimal_from : ℕ → Text → Option ℕ
decimal_from sum [] = Some sum
decimal_from sum (b ∷ bs) = if is_digit b then decimal_from (sum * 10 + (b - 48)) bs else None

-- a number that is not above a limit, or not below one
abbrev pub up_to : ℕ → Option ℕ → Option ℕ
up_to limit None = None
up_to limit (Some n) = if nat_le n limit then Some n else None

abbrev pub at_least : ℕ → Option ℕ → Option ℕ
at_least limit None = None
at_least limit (Some n) = if nat_le limit n then Some n else None

-- one or more decimal digits
abbrev pub digits_in : Text → Option ℕ
digits_in [] = None
digits_in (b ∷ bs) = decimal_from 0 (b ∷ bs)

abbrev pub number_in : (least most : ℕ) → Text → Option ℕ
number_in least most word = at_least least (up_to most (digits_in word))

abbrev pub steps_in : Option Text → Option ℕ
steps_in None = Some usual_steps
steps_in (Some word) = number_in 0 most_steps word

abbrev pub arena_in : Option Text → Option ℕ
arena_in None = Some usual_arena_words
arena_in (Some word) = number_in least_arena_words most_arena_words word

-- `make` has a number in the place of a file
abbrev pub making : Option ℕ → Option Action
making None = None
making (Some n) = Some (Make n)

abbrev pub made_in : Option Text → Option Action
made_in None = None
made_in (Some word) = making (number_in 1 most_made word)

-- the action of that name
abbrev pub action_named : (name : Text) (file : Option Text) → Option Action
action_named name file =
    if bytes_eq name (codes "run") then Some Run
    else if bytes_eq name (codes "show") then Some Show
    else if bytes_eq name (codes "check") then Some Check
    else if bytes_eq name (codes "build") then Some Build
    else if bytes_eq name (codes "exec") then Some Exec
    else if bytes_eq name (codes "plain") then Some Plain
    else if bytes_eq name (codes "make") then made_in file
    else None

abbrev pub action_in : (name file : Option Text) → Option Action
action_in None file = None
action_in (Some name) file = action_named name file

-- what is asked for, where each part of it is
abbrev pub asked_for : Option Action → Option ℕ → Option ℕ → Option Text → Option Request
asked_for None steps arena file = None
asked_for (Some action) None arena file = None
asked_for (Some action) (Some steps) None file = None
asked_for (Some action) (Some steps) (Some arena) None = None
asked_for (Some action) (Some steps) (Some arena) (Some file) = Some (record { action = action; steps = steps; arena = arena; file = file })

abbrev pub asked_by : List Row → Option Request
asked_by rows =
    asked_for (action_in (first_of (codes "action") rows) (first_of (codes "file") rows)) (steps_in (first_of (codes "steps") rows)) (arena_in (first_of (codes "arena") rows)) (first_of (codes "file") rows)

abbrev pub asked_unless : Kinds → Option Request → Option Request
asked_unless [] command = command
asked_unless (k ∷ ks) command = None

-- what the words ask for; none where they are no command
abbrev pub asked : List Text → Option Request
asked words = asked_unless (refusals words) (asked_by (given words))
