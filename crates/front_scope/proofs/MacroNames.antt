-- The first of so many macros that has a name, as far as they were looked through; the macro that is called is one of those that apply.
use Rattle.std.proofs.Common.{◌≡◌, ◌≤◌, ◌<◌, ◌∙◌, ◌+◌, ◌||◌, is_some, ℕ, suc, Bool, true, false, List, [], ◌∷◌, Option, Some, None, option_map, take, drop, length, slice_get, get_or, if◌then◌else◌, refl, ap, arith}
use Rattle.std.proofs.lemmas.List.{drop_more, drop_all, get_or-take, length-take}
use Rattle.std.proofs.lemmas.Option.{slice_get_within, get_or_from_slice_get}
use Rattle.base.specs.declared.datum.Name.{Name}
use Rattle.base.specs.declared.datum.Symbol.{Symbol}
use Rattle.base.specs.declared.datum.Symbol.TheVariants.{Named, Fresh}
use Rattle.base.specs.Data.{Item}
use Rattle.base.specs.DataNames.{symbol_text}
use Rattle.lang_derived.specs.Asked.{list_items}
use Rattle.front_profile.specs.declared.tables.MacroRow.{MacroRow}
use Rattle.front_profile.specs.DefiningRows.{is_that}
use Rattle.front_profile.specs.declared.tables.Tables.{Tables}
use Rattle.front_profile.specs.Names.{function_of}
use Rattle.front_profile.specs.Nodes.{StaticContext}
use Rattle.front_profile.specs.Rows.{special_of, macro_named, macros_before, macro_of_symbol, macro_of_items, macro_called}
use Rattle.front_profile.specs.Shapes.{symbol_of}

-- what those from a number on say
abbrev pub from_there : ℕ → List MacroRow → Name → Option ℕ
from_there k ms n = option_map (λ i. i + k) (macro_named (drop k ms) n)

add_none : (o : Option ℕ) → option_map (λ i. i + 0) o ≡ o
add_none None = refl
add_none (Some i) = let same : i + 0 ≡ i = omega arith in ap Some same

pub from_none : (ms : List MacroRow) (n : Name) → from_there 0 ms n ≡ macro_named ms n
from_none ms n = add_none (macro_named ms n)

add_more : (k : ℕ) (o : Option ℕ) → option_map (λ i. i + k) (option_map (λ i. i + 1) o) ≡ option_map (λ i. i + (k + 1)) o
add_more k None = refl
add_more k (Some i) = let same : i + 1 + k ≡ i + (k + 1) = omega arith in ap Some same

-- the macro of that number stands in front of the others
here : (k count : ℕ) (ms : List MacroRow) (m : MacroRow) → k < count → slice_get ms k ≡ Some m → drop k (take count ms) ≡ m ∷ drop (k + 1) (take count ms)
here k count ms m h e =
    let within : k < length (take count ms) = omega (arith, h, slice_get_within ms k m e, length-take count ms) in
    let item : get_or (take count ms) k m ≡ m = get_or-take count ms k m h ∙ get_or_from_slice_get ms k m m e in
    drop_more (take count ms) k m within ∙ ap (λ x. x ∷ drop (k + 1) (take count ms)) item

first_is : (k : ℕ) (b : Bool) (o : Option ℕ) → b ≡ true → option_map (λ i. i + k) (if b then Some 0 else o) ≡ Some k
first_is k true o e = let same : 0 + k ≡ k = omega arith in ap Some same
first_is k false o e = absurd (cc e)

first_is_not : (k : ℕ) (b : Bool) (o : Option ℕ) → (b ≡ true → ⊥) → option_map (λ i. i + k) (if b then Some 0 else option_map (λ i. i + 1) o) ≡ option_map (λ i. i + (k + 1)) o
first_is_not k true o h = absurd (h refl)
first_is_not k false o h = add_more k o

-- it has the name, or another one has
pub named_here : (k count : ℕ) (ms : List MacroRow) (m : MacroRow) (n : Name) → k < count → slice_get ms k ≡ Some m → is_that n m.name ≡ true
    → from_there k (take count ms) n ≡ Some k
named_here k count ms m n h e t =
    ap (λ xs. option_map (λ i. i + k) (macro_named xs n)) (here k count ms m h e)
    ∙ first_is k (is_that n m.name) (option_map (λ i. i + 1) (macro_named (drop (k + 1) (take count ms)) n)) t

pub named_behind : (k count : ℕ) (ms : List MacroRow) (m : MacroRow) (n : Name) → k < count → slice_get ms k ≡ Some m → (is_that n m.name ≡ true → ⊥)
    → from_there k (take count ms) n ≡ from_there (k + 1) (take count ms) n
named_behind k count ms m n h e t =
    ap (λ xs. option_map (λ i. i + k) (macro_named xs n)) (here k count ms m h e)
    ∙ first_is_not k (is_that n m.name) (macro_named (drop (k + 1) (take count ms)) n) t

pub named_nowhere : (k count : ℕ) (ms : List MacroRow) (n : Name) → length (take count ms) ≤ k → from_there k (take count ms) n ≡ None
named_nowhere k count ms n h = ap (λ xs. option_map (λ i. i + k) (macro_named xs n)) (drop_all k (take count ms) h)

-- where one has it, that is one of them

some_below : (n : ℕ) (o : Option ℕ) (i : ℕ) → ((j : ℕ) → o ≡ Some j → j < n) → option_map (λ j. j + 1) o ≡ Some i → i < suc n
some_below n None i h e = absurd (cc e)
some_below n (Some j) i h e = let same : j + 1 ≡ i = cc e in omega (arith, h j refl, same)

below_by : (b : Bool) (n : ℕ) (o : Option ℕ) (i : ℕ) → ((j : ℕ) → o ≡ Some j → j < n) → (if b then Some 0 else option_map (λ j. j + 1) o) ≡ Some i → i < suc n
below_by true n o i h e = let same : 0 ≡ i = cc e in omega (arith, same)
below_by false n o i h e = some_below n o i h e

pub named_below : (ms : List MacroRow) (n : Name) (i : ℕ) → macro_named ms n ≡ Some i → i < length ms
named_below [] n i e = absurd (cc e)
named_below (m ∷ ms) n i e = below_by (is_that n m.name) (length ms) (macro_named ms n) i (λ j k. named_below ms n j k) e

-- the macro that is called is one of those that apply

of_symbol : (names : List (List ℕ)) (a : StaticContext) (s : Tables) (x : Option Symbol) (m : ℕ) → macro_of_symbol names a s x ≡ Some m → m < length (macros_before s)
of_symbol names a s None m e = absurd (cc e)
of_symbol names a s (Some (Fresh k serial)) m e = absurd (cc e)
of_symbol names a s (Some (Named n)) m e =
    by_test (is_some (special_of (symbol_text names (Named n))) || is_some (function_of a.bound (Named n))) e
  where
    by_test : (b : Bool) → (if b then None else macro_named (macros_before s) n) ≡ Some m → m < length (macros_before s)
    by_test true h = absurd (cc h)
    by_test false h = named_below (macros_before s) n m h

of_items : (names : List (List ℕ)) (a : StaticContext) (s : Tables) (ds : Option (List Item)) (m : ℕ) → macro_of_items names a s ds ≡ Some m → m < length (macros_before s)
of_items names a s None m e = absurd (cc e)
of_items names a s (Some []) m e = absurd (cc e)
of_items names a s (Some (h ∷ ds)) m e = of_symbol names a s (symbol_of h) m e

pub called_below : (names : List (List ℕ)) (a : StaticContext) (s : Tables) (d : Item) (m : ℕ) → macro_called names a s d ≡ Some m → m < length (macros_before s)
called_below names a s d m e = of_items names a s (list_items d) m e
