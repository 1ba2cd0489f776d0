-- Proper lists in stores that grow, and the places of variables.
use Rattle.std.proofs.Common.{◌≡◌, ◌≤◌, ◌<◌, ℕ, ◌+◌, ◌==◌, Bool, true, false, List, [], ◌∷◌, ap, ◌∙◌, Some, length, length-append, arith, if◌then◌else◌}
use Rattle.std.proofs.lemmas.Bool.Decides.{nat_tests}
use Rattle.lang_meaning.specs.Values.{Value}
use Rattle.lang_meaning.specs.Objects.{Object}
use Rattle.lang_meaning.specs.Lookup.{under_number}
use Rattle.lang_library_laws.specs.Lists.{IsListFrom, IsProperList}
use Rattle.lang_library_laws.specs.Applications.{IsExtended}
use Rattle.lang_library_laws.proofs.Frames.{Places, get_kept}
use Rattle.lang_library_laws.proofs.Evaluates.{Cell}

pub list_kept : {store now : List Object} → IsExtended Object store now → (first : ℕ) (v : Value) (items : List Value)
    → IsListFrom first store v items → IsListFrom first now v items
list_kept {store} {now} e first v [] h = h
list_kept {store} {now} e first v (x ∷ xs) h = (h.0, h.1, h.2, h.3, get_kept e h.0 _ h.4, list_kept e first h.1 xs h.5)

-- a list of conses from a number on is a proper list
pub proper_list : (store : List Object) (first : ℕ) (v : Value) (items : List Value) → IsListFrom first store v items → IsProperList store v items
proper_list store first v [] h = h
proper_list store first v (x ∷ xs) h = (h.0, h.1, h.2, omega arith, h.4, proper_list store first h.1 xs h.5)

-- a list that has items begins with a cons
abbrev pub cell_of : {store : List Object} (first : ℕ) (v x : Value) (xs : List Value) → IsListFrom first store v (x ∷ xs) → Cell store v
cell_of {store} first v x xs h = record { number = h.0; first = x; rest = h.1; is = h.2; there = h.4 }

-- and still does in a later store
abbrev pub cell_later : {store now : List Object} → IsExtended Object store now → (first : ℕ) (v x : Value) (xs : List Value) → IsListFrom first store v (x ∷ xs) → Cell now v
cell_later {store} {now} e first v x xs h = record { number = h.0; first = x; rest = h.1; is = h.2; there = get_kept e h.0 _ h.4 }

pub no_shorter : {X : Type 0} {before after : List X} → IsExtended X before after → length before ≤ length after
no_shorter {X} {before} {after} e =
    let sum : length after ≡ length before + length e.added = ap length e.is ∙ length-append before e.added in omega (arith, sum)

-- the first variable of a frame, and the ones behind it
same_number : (v : ℕ) → (v == v) ≡ true
same_number v = grind (arith, nat_tests)

later_number : (v n : ℕ) → 0 < n → (v + n == v) ≡ false
later_number v n h = grind (arith, nat_tests, h)

pub here : (v i : ℕ) (ps : Places) → under_number v ((v, i) ∷ ps) ≡ Some i
here v i ps = ap (λ (b : Bool). if b then Some i else under_number v ps) (same_number v)

-- a variable that is another one than the first
pub elsewhere : (v w i : ℕ) (ps : Places) {j : ℕ} → (v == w) ≡ false → under_number v ps ≡ Some j → under_number v ((w, i) ∷ ps) ≡ Some j
elsewhere v w i ps {j} h e = ap (λ (b : Bool). if b then Some i else under_number v ps) h ∙ e

-- the n-th variable behind the first
pub behind_first : (v n i : ℕ) (ps : Places) {j : ℕ} → 0 < n → under_number (v + n) ps ≡ Some j → under_number (v + n) ((v, i) ∷ ps) ≡ Some j
behind_first v n i ps h e = elsewhere (v + n) v i ps (later_number v n h) e
