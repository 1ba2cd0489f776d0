-- Which word is wrong, where words are no command: the first, from the left, that cannot stand where it stands. None where a word is wanting, or an
-- option stands twice.
use Rattle.std.specs.Prelude.{◌==◌, Bool, true, false, ◌||◌, List, [], ◌∷◌, Option, Some, None, is_some, if◌then◌else◌, codes}
use Rattle.std.specs.Str.{bytes_eq}
use Rattle.clap.specs.Walk.{Text}
use Rattle.top_command.specs.Command.{number_in}
use Rattle.top_command.specs.Limits.{most_steps, least_arena_words, most_arena_words, most_made}
use Rattle.top_command.specs.declared.wrong.Step.{Step}
use Rattle.top_command.specs.declared.wrong.Step.TheVariants.{GoesOn, Takes, Wrong}
use Rattle.top_command.specs.declared.wrong.Wanted.{Wanted}
use Rattle.top_command.specs.declared.wrong.Wanted.TheVariants.{Action, File, Number, Nothing}

-- the actions that have a file
abbrev pub has_file : Text → Bool
has_file w =
    bytes_eq w (codes "run") || bytes_eq w (codes "show") || bytes_eq w (codes "check") || bytes_eq w (codes "build") || bytes_eq w (codes "exec")
    || bytes_eq w (codes "plain")

-- what is wanted behind a word that is no option; none where it cannot stand there
abbrev pub behind : Wanted → Text → Option Wanted
behind Action w = if bytes_eq w (codes "make") then Some Number else if has_file w then Some File else None
behind File w = Some Nothing
behind Number w = if is_some (number_in 1 most_made w) then Some Nothing else None
behind Nothing w = None

-- what stands behind a prefix, where the word begins with it
abbrev pub after : Text → Text → Option Text
after [] w = Some w
after (p ∷ ps) [] = None
after (p ∷ ps) (b ∷ bs) = if p == b then after ps bs else None

-- a word that begins with `-` and is longer is an option
abbrev pub is_option : Text → Bool
is_option [] = false
is_option (b ∷ []) = false
is_option (b ∷ c ∷ bs) = b == 45

-- a value of `--arena`, or of `--steps`
abbrev pub is_value : (arena : Bool) → Text → Bool
is_value true value = is_some (number_in least_arena_words most_arena_words value)
is_value false value = is_some (number_in 0 most_steps value)

-- an option with its value behind `=`
abbrev pub holds : (arena : Bool) → Option Text → Bool
holds arena None = false
holds arena (Some value) = is_value arena value

abbrev pub stands_alone : Text → Bool
stands_alone w = holds false (after (codes "--steps=") w) || holds true (after (codes "--arena=") w)

-- what is wanted behind an option with its value, or behind any other word
abbrev pub behind_any : Wanted → Text → Option Wanted
behind_any wanted w = if is_option w then (if stands_alone w then Some wanted else None) else behind wanted w

-- what is known behind a word: what is wanted of the next one that is no option, where `--` may have ended the options; that it is the value of an
-- option; or that the word is wrong
abbrev pub goes_on : (ended : Bool) → Option Wanted → Step
goes_on ended None = Wrong
goes_on ended (Some wanted) = GoesOn ended wanted

abbrev pub behind_word : (ended : Bool) → Wanted → Text → Step
behind_word ended wanted w =
    if ended then goes_on true (behind wanted w)
    else if bytes_eq w (codes "--") then GoesOn true wanted
    else if bytes_eq w (codes "--steps") then Takes false wanted
    else if bytes_eq w (codes "--arena") then Takes true wanted
    else goes_on false (behind_any wanted w)

abbrev pub next : Step → Text → Step
next (GoesOn ended wanted) w = behind_word ended wanted w
next (Takes arena wanted) w = if is_value arena w then GoesOn false wanted else Wrong
next Wrong w = Wrong

abbrev pub is_wrong : Step → Bool
is_wrong (GoesOn ended wanted) = false
is_wrong (Takes arena wanted) = false
is_wrong Wrong = true

abbrev pub first_wrong : Step → List Text → Option Text
first_wrong s [] = None
first_wrong s (w ∷ ws) = if is_wrong (next s w) then Some w else first_wrong (next s w) ws

-- of all words
abbrev pub wrong_word : List Text → Option Text
wrong_word words = first_wrong (GoesOn false Action) words
