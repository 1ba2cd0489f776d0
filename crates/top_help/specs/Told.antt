-- What the command tells of itself.
use Rattle.std.specs.Prelude.{ℕ, ◌||◌, Bool, List, [], ◌∷◌, Option, Some, None, if◌then◌else◌, codes}
use Rattle.std.specs.Str.{bytes_eq}
use Rattle.top_help.specs.declared.texts.TheConstants.{HELP, VERSION}
use Rattle.top_help.specs.Topics.{Topic, topics}

-- by one word
abbrev pub told_by : List ℕ → Option (List ℕ)
told_by word =
    if bytes_eq word (codes "--help") || bytes_eq word (codes "-h") then Some HELP.now
    else if bytes_eq word (codes "--version") then Some VERSION.now
    else None

-- a topic has a word for its name: a reason its number or its name, a class its name with brackets or without them
abbrev pub is_of : List ℕ → Topic → Bool
is_of word t = bytes_eq t.short word || bytes_eq t.name word

-- what is said of the first topic that has it
abbrev pub explained : List ℕ → List Topic → Option (List ℕ)
explained word [] = None
explained word (t ∷ ts) = if is_of word t then Some t.text else explained word ts

-- the text that words ask for; none where they are others
abbrev pub told : (words : List (List ℕ)) → Option (List ℕ)
told [] = None
told (word ∷ []) = told_by word
told (word ∷ topic ∷ []) = if bytes_eq word (codes "explain") then explained topic topics else None
told (word ∷ topic ∷ other ∷ words) = None
