-- What names and numbers stand for: the first of its kind in a list (ISO/IEC 13816:2007, 11 and 14.2).
use Rattle.std.specs.Prelude.{ℕ, ◌+◌, ◌==◌, Bool, true, false, not, ◌&&◌, List, [], ◌∷◌, ◌++◌, Option, Some, None, length, slice_index_or, slice_set, if◌then◌else◌}
use Rattle.std.specs.List.{list_any}
use Rattle.std.specs.Str.{bytes_eq}
use Rattle.lang_meaning.specs.Values.{Value, nil}
use Rattle.lang_meaning.specs.Objects.{Environment}
use Rattle.lang_meaning.specs.State.{State}

-- the text of a name, where names are the texts of the program's names
abbrev pub text : List (List ℕ) → ℕ → List ℕ
text names n = slice_index_or names n []

-- whether no two of the list are alike
abbrev pub all_differ : {X : Type 0} → (X → X → Bool) → List X → Bool
all_differ alike [] = true
all_differ alike (x ∷ xs) = not (list_any (alike x) xs) && all_differ alike xs

-- whether a number is in the list
abbrev pub is_in : ℕ → List ℕ → Bool
is_in n ns = list_any (λ m. n == m) ns

-- how many are passed in a search from the first on, the one that is found too
abbrev pub passed : {X : Type 0} → (X → Bool) → List X → ℕ
passed p [] = 0
passed p (x ∷ xs) = if p x then 1 else 1 + passed p xs

-- what stands under a text
abbrev pub under_text : {X : Type 0} → List ℕ → List (List ℕ × X) → Option X
under_text name [] = None
under_text name (x ∷ xs) = if bytes_eq name x.0 then Some x.1 else under_text name xs

-- what stands under a number
abbrev pub under_number : ℕ → List (ℕ × ℕ) → Option ℕ
under_number n [] = None
under_number n (x ∷ xs) = if n == x.0 then Some x.1 else under_number n xs

-- variables

-- the value of a variable, by its number in the state; in a program each variable is bound
abbrev pub value_at : Option ℕ → State → Value
value_at (Some i) z = slice_index_or z.variables i nil
value_at None z = nil

abbrev pub set_at : Option ℕ → Value → State → State
set_at (Some i) v z = record z { variables = slice_set z.variables i v }
set_at None v z = z

-- variables with consecutive numbers
abbrev pub numbered : {X : Type 0} → List X → ℕ → List (X × ℕ)
numbered [] n = []
numbered (x ∷ xs) n = (x, n) ∷ numbered xs (n + 1)

-- new variables with these values
abbrev pub with_variables : List ℕ → State → Environment → Environment
with_variables vars z env = record env { variables = numbered vars (length z.variables) ++ env.variables }

abbrev pub with_values : List Value → State → State
with_values vs z = record z { variables = z.variables ++ vs }

-- the exit that is made next, under a name
abbrev pub with_exit : ℕ → State → Environment → Environment
with_exit x z env = record env { exits = (x, z.exits) ∷ env.exits }
