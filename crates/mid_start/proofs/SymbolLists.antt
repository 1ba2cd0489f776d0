-- Lists of symbols with their words: the place of a name, and the first symbol that is the one looked for.
use Rattle.std.proofs.Common.{◌≡◌, ℕ, zero, suc, ◌<◌, Bool, true, false, List, [], ◌∷◌, ◌++◌, length, Option, Some, None, refl, sym, ◌∙◌, ap, arith}
use Rattle.std.specs.Prelude.{slice_get, slice_set, if◌then◌else◌}
use Rattle.std.proofs.lemmas.Bool.Decides.{nat_tests}
use Rattle.base.specs.declared.datum.Name.{Name}
use Rattle.base.specs.declared.datum.Symbol.{Symbol}
use Rattle.base.specs.declared.datum.Symbol.TheVariants.{Named, Fresh}
use Rattle.mid_arena.proofs.Owners.{FrontOrEnd, at_front, at_end, front_or_end}
use Rattle.mid_start.specs.declared.symbol_words.SymbolWord.{SymbolWord}
use Rattle.mid_start.specs.Lists.{IsBeginning}
use Rattle.mid_start.specs.Symbols.{is_same_symbol, word_of_symbol, IsIndexed}
use Rattle.mid_arena.proofs.Lists.{set_here, set_elsewhere}
use Rattle.mid_start.proofs.Lists.{item_stays}

-- a symbol that is the one of a name
pub named_told : (name : Name) (s : Symbol) → is_same_symbol (Named name) s ≡ true → s ≡ Named name
named_told name (Named other) e =
    let same : other.0 ≡ name.0 = grind (arith, nat_tests) in
    ap (λ n. Named (record { 0 = n })) same
named_told name (Fresh expansion serial) e = absurd (cc e)

-- the only symbol that is the one looked for is found
pub only_found :
    (s : Symbol) (xs : List SymbolWord) (p : ℕ) (x : SymbolWord) → slice_get xs p ≡ Some x → is_same_symbol s x.symbol ≡ true
    → ((q : ℕ) (y : SymbolWord) → slice_get xs q ≡ Some y → is_same_symbol s y.symbol ≡ true → q ≡ p) → word_of_symbol s xs ≡ Some x.word
only_found s [] p x at is only = absurd (cc at)
only_found s (y ∷ ys) zero x at is only =
    let same : x ≡ y = cc at in
    rw (← same) (ap (λ b. if b then Some x.word else word_of_symbol s ys) is)
only_found s (y ∷ ys) (suc p) x at is only =
    by (is_same_symbol s y.symbol) refl
    (only_found s ys p x at is (λ q z there same. let later : suc q ≡ suc p = only (suc q) z there same in omega arith))
  where
    by : (b : Bool) → is_same_symbol s y.symbol ≡ b → word_of_symbol s ys ≡ Some x.word → (if b then Some y.word else word_of_symbol s ys) ≡ Some x.word
    by true e further = absurd (let first : 0 ≡ suc p = only 0 y refl e in omega arith)
    by false e further = further

-- where none is the one looked for, none is found
pub none_found :
    (s : Symbol) (xs : List SymbolWord) → ((q : ℕ) (y : SymbolWord) → slice_get xs q ≡ Some y → is_same_symbol s y.symbol ≡ true → ⊥)
    → word_of_symbol s xs ≡ None
none_found s [] other = refl
none_found s (y ∷ ys) other = by (is_same_symbol s y.symbol) refl (none_found s ys (λ q z there same. other (suc q) z there same))
  where
    by : (b : Bool) → is_same_symbol s y.symbol ≡ b → word_of_symbol s ys ≡ None → (if b then Some y.word else word_of_symbol s ys) ≡ None
    by true e further = absurd (other 0 y refl e)
    by false e further = further

-- a choice that comes to nothing
passed : (b : Bool) (n : ℕ) (rest : Option ℕ) → (if b then Some n else rest) ≡ None → (b ≡ false) × (rest ≡ None)
passed true n rest h = absurd (cc h)
passed false n rest h = (refl, h)

-- and where none is found, none is it
pub other_than :
    (s : Symbol) (xs : List SymbolWord) (q : ℕ) (y : SymbolWord) → word_of_symbol s xs ≡ None → slice_get xs q ≡ Some y → is_same_symbol s y.symbol ≡ false
other_than s [] q y none at = absurd (cc at)
other_than s (x ∷ xs) zero y none at = let same : x ≡ y = cc at in rw (← same) (passed (is_same_symbol s x.symbol) _ _ none).0
other_than s (x ∷ xs) (suc q) y none at = other_than s xs q y (passed (is_same_symbol s x.symbol) _ _ none).1 at

-- ---- symbols with a name, by their number

module _ (xs : List SymbolWord) (places : List ℕ) (indexed : IsIndexed xs places) (name : Name) where
  -- the place of a symbol that is the one of the name
  place_of : (q : ℕ) (y : SymbolWord) → slice_get xs q ≡ Some y → is_same_symbol (Named name) y.symbol ≡ true → slice_get places name.0 ≡ Some q
  place_of q y at is = indexed.found q y name at (named_told name y.symbol is)

  pub none_without_place : slice_get places name.0 ≡ None → word_of_symbol (Named name) xs ≡ None
  none_without_place none =
      none_found (Named name) xs (λ q y at is. let there : slice_get places name.0 ≡ Some q = place_of q y at is in absurd (cc))

  pub none_at_place : (p : ℕ) → slice_get places name.0 ≡ Some p → slice_get xs p ≡ None → word_of_symbol (Named name) xs ≡ None
  none_at_place p place none =
      none_found (Named name) xs
      (λ q y at is.
      let there : slice_get places name.0 ≡ Some q = place_of q y at is in
      let same : q ≡ p = cc in
      let here : slice_get xs p ≡ Some y = ap (slice_get xs) (sym same) ∙ at in
      absurd (cc))

  pub other_at_place :
      (p : ℕ) (x : SymbolWord) → slice_get places name.0 ≡ Some p → slice_get xs p ≡ Some x → is_same_symbol (Named name) x.symbol ≡ false
      → word_of_symbol (Named name) xs ≡ None
  other_at_place p x place here other =
      none_found (Named name) xs
      (λ q y at is.
      let there : slice_get places name.0 ≡ Some q = place_of q y at is in
      let same : q ≡ p = cc in
      let one : slice_get xs p ≡ Some y = ap (slice_get xs) (sym same) ∙ at in
      let equal : x ≡ y = cc in
      let told : is_same_symbol (Named name) x.symbol ≡ true = rw equal is in
      absurd (cc))

  pub found_at_place :
      (p : ℕ) (x : SymbolWord) → slice_get places name.0 ≡ Some p → slice_get xs p ≡ Some x → is_same_symbol (Named name) x.symbol ≡ true
      → word_of_symbol (Named name) xs ≡ Some x.word
  found_at_place p x place here is =
      only_found (Named name) xs p x here is
      (λ q y at same. let there : slice_get places name.0 ≡ Some q = place_of q y at same in cc)

-- ---- what is kept

pub none_indexed : (places : List ℕ) → IsIndexed [] places
none_indexed places = record { found = λ p x name at is. absurd (cc at) }

pub indexed_longer : (xs : List SymbolWord) (places more : List ℕ) → IsIndexed xs places → IsBeginning places more → IsIndexed xs more
indexed_longer xs places more i b = record {
  found = λ p x name at is. item_stays places more name.0 p b (i.found p x name at is);
}

pub indexed_fresh :
    (xs : List SymbolWord) (places : List ℕ) (x : SymbolWord) → IsIndexed xs places → word_of_symbol x.symbol xs ≡ None
    → ((name : Name) → x.symbol ≡ Named name → ⊥) → IsIndexed (xs ++ x ∷ []) places
indexed_fresh xs places x i new unnamed = record { found = λ p y name at is. by p y name is (front_or_end xs x p y at) }
  where
    by : (p : ℕ) (y : SymbolWord) (name : Name) → y.symbol ≡ Named name → FrontOrEnd xs x p y → slice_get places name.0 ≡ Some p
    by p y name is (at_front h) = i.found p y name h is
    by p y name is (at_end h same) = absurd (unnamed name (rw same at is))

pub indexed_named :
    (xs : List SymbolWord) (places : List ℕ) (x : SymbolWord) (name : Name) → IsIndexed xs places → word_of_symbol (Named name) xs ≡ None
    → x.symbol ≡ Named name → name.0 < length places → IsIndexed (xs ++ x ∷ []) (slice_set places name.0 (length xs))
indexed_named xs places x name i new named room = record { found = λ p y other at is. by p y other is (front_or_end xs x p y at) }
  where
    by : (p : ℕ) (y : SymbolWord) (other : Name) → y.symbol ≡ Named other → FrontOrEnd xs x p y
        → slice_get (slice_set places name.0 (length xs)) other.0 ≡ Some p
    by p y other is (at_front h) =
        set_elsewhere places name.0 other.0 (length xs)
        (λ (same : name.0 ≡ other.0).
        let told : is_same_symbol (Named name) y.symbol ≡ true = rw is (grind (arith, nat_tests)) in
        let not : is_same_symbol (Named name) y.symbol ≡ false = other_than (Named name) xs p y new h in
        absurd (cc))
        ∙ i.found p y other h is
    by p y other is (at_end h same) =
        let one : Named name ≡ Named other = sym named ∙ ap (λ (z : SymbolWord). z.symbol) (sym same) ∙ is in
        let number : name.0 ≡ other.0 = cc in
        rw (← number, h) (set_here places name.0 (length xs) room)
