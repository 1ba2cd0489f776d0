-- Symbols that are found by their words are those that stand there.
use Rattle.std.proofs.Common.{◌≡◌, ℕ, zero, suc, ◌+◌, ◌<◌, Bool, true, false, List, [], ◌∷◌, length, Option, Some, None, refl, sym, ap, subst, ◌∙◌, cond, arith}
use Rattle.std.specs.Prelude.{◌==◌, ◌&&◌, slice_get, IsSome, if◌then◌else◌}
use Rattle.std.specs.Ordering.{nat_cmp, is_eq}
use Rattle.std.proofs.lemmas.Slice.Eq.{bytes_eq-Decides}
use Rattle.std.proofs.lemmas.Bool.Decides.{nat_tests}
use Rattle.std.proofs.lemmas.Option.{slice_get_within}
use Rattle.base.specs.declared.datum.Symbol.{Symbol}
use Rattle.base.specs.DataMeasures.{SymbolBelow}
use Rattle.lang_meaning.specs.Literals.{symbol_of}
use Rattle.lang_meaning.specs.Values.{SymbolValue, named, unnamed, same_symbol, symbol, Value}
use Rattle.lang_meaning.specs.State as meaning
use Rattle.mid_arena.specs.Places.{Spot, pointer_to, pointer_in, Places, spot_of_symbol, word_of}
use Rattle.mid_start.specs.declared.symbol_words.SymbolWord.{SymbolWord}
use Rattle.mid_start.specs.LaidWell.{IsSymbolThere, AreSymbolsThere, AreDistinct}
use Rattle.mid_start.proofs.Joining.{symbol_itself, symbol_told}
use Rattle.mid_taken.specs.Index.{Index, symbol_at}
use Rattle.mid_taken.specs.IndexOf.{IsIndexOfFirst, IsIndexOf}
use Rattle.mid_taken.specs.Stands.{Stands}
use Rattle.mid_taken.specs.TakenFrom.{TakenFrom}

-- ---- the index

pub none_indexed : (symbols : List SymbolWord) → IsIndexOfFirst symbols 0 []
none_indexed symbols = record { found = λ word s e. absurd (cc e); there = λ i x below e. absurd (omega (arith, below)) }

-- a word is that one
compared : (a b : ℕ) → is_eq (nat_cmp a b) ≡ true → a ≡ b
compared a b h = grind (arith, nat_tests)

self_compared : (a : ℕ) → is_eq (nat_cmp a a) ≡ true
self_compared a = grind (arith, nat_tests)

pub one_indexed :
    (symbols : List SymbolWord) (k : ℕ) (x : SymbolWord) (index : Index) → slice_get symbols k ≡ Some x → IsIndexOfFirst symbols k index
    → IsIndexOfFirst symbols (k + 1) ((x.word, x.symbol) ∷ index)
one_indexed symbols k x index at h = record {
  found = λ word s e. by word s (is_eq (nat_cmp word x.word)) refl e;
  there = λ i y below e. there_by i y (is_eq (nat_cmp y.word x.word)) refl below e (i == k) refl;
}
  where
    by : (word : ℕ) (s : Symbol) (b : Bool) → is_eq (nat_cmp word x.word) ≡ b → cond b (Some x.symbol) (symbol_at word index) ≡ Some s
        → (i : ℕ) × (slice_get symbols i ≡ Some (record { word = word; symbol = s }))
    by word s true same e =
        let word_is : word ≡ x.word = compared word x.word same in
        let symbol_is : x.symbol ≡ s = cc e in
        let first : ℕ → SymbolWord = λ w. record { word = w; symbol = x.symbol } in
        let second : Symbol → SymbolWord = λ q. record { word = word; symbol = q } in
        (k, at ∙ ap (λ q. Some q) (ap first (sym word_is) ∙ ap second symbol_is))
    by word s false same e = h.found word s e

    there_by :
        (i : ℕ) (y : SymbolWord) (b : Bool) → is_eq (nat_cmp y.word x.word) ≡ b → i < k + 1 → slice_get symbols i ≡ Some y → (c : Bool) → (i == k) ≡ c
        → IsSome (cond b (Some x.symbol) (symbol_at y.word index))
    there_by i y true same below e c last = refl
    there_by i y false same below e true last =
        let place : i ≡ k = grind (arith, nat_tests) in
        let one : x ≡ y = cc (at, e, ap (slice_get symbols) place) in
        let words : is_eq (nat_cmp y.word x.word) ≡ true = ap (λ (q : SymbolWord). is_eq (nat_cmp y.word q.word)) one ∙ self_compared y.word in
        absurd (cc (words, same))
    there_by i y false same below e false last = let front : i < k = grind (arith, nat_tests) in h.there i y front e

-- ---- symbols in their spots

-- of the listed symbols, and of the spots, each has its fellow
pub listed_at :
    (names : List (List ℕ)) (xs : List SymbolWord) (ps : List (SymbolValue × Spot)) → AreSymbolsThere names xs ps → (i : ℕ) (x : SymbolWord) → slice_get xs i ≡ Some x
    → (p : SymbolValue × Spot) × ((slice_get ps i ≡ Some p) × IsSymbolThere names x p.0 p.1)
listed_at names [] ps all i x e = absurd (cc e)
listed_at names (y ∷ ys) [] all i x e = absurd all
listed_at names (y ∷ ys) (p ∷ ps) all zero x e = let same : y ≡ x = cc e in (p, (refl, subst (λ q. IsSymbolThere names q p.0 p.1) same all.0))
listed_at names (y ∷ ys) (p ∷ ps) all (suc i) x e = listed_at names ys ps all.1 i x e

spot_at :
    (names : List (List ℕ)) (xs : List SymbolWord) (ps : List (SymbolValue × Spot)) → AreSymbolsThere names xs ps → (i : ℕ) (p : SymbolValue × Spot) → slice_get ps i ≡ Some p
    → (x : SymbolWord) × ((slice_get xs i ≡ Some x) × IsSymbolThere names x p.0 p.1)
spot_at names xs [] all i p e = absurd (cc e)
spot_at names [] (q ∷ qs) all i p e = absurd all
spot_at names (x ∷ xs) (q ∷ qs) all zero p e =
    let same : q ≡ p = cc e in (x, (refl, subst (λ (r : SymbolValue × Spot). IsSymbolThere names x r.0 r.1) same all.0))
spot_at names (x ∷ xs) (q ∷ qs) all (suc i) p e = spot_at names xs qs all.1 i p e

-- a symbol that has one spot is found there
spot_found :
    (ps : List (SymbolValue × Spot)) (i : ℕ) (p : SymbolValue × Spot) → slice_get ps i ≡ Some p
    → ((j : ℕ) (q : SymbolValue × Spot) → slice_get ps j ≡ Some q → q.0 ≡ p.0 → j ≡ i) → spot_of_symbol p.0 ps ≡ Some p.1
spot_found [] i p e once = absurd (cc e)
spot_found (x ∷ xs) zero p e once =
    let same : x ≡ p = cc e in
    let test : same_symbol p.0 x.0 ≡ true = ap (λ (q : SymbolValue × Spot). same_symbol p.0 q.0) same ∙ symbol_itself p.0 in
    rw test (ap (λ (q : SymbolValue × Spot). Some q.1) same)
spot_found (x ∷ xs) (suc i) p e once =
    by (same_symbol p.0 x.0) refl
    (spot_found xs i p e (λ j q there same. let next : suc j ≡ suc i = once (suc j) q there same in omega (arith, next)))
  where
    by : (b : Bool) → same_symbol p.0 x.0 ≡ b → spot_of_symbol p.0 xs ≡ Some p.1 → (if b then Some x.1 else spot_of_symbol p.0 xs) ≡ Some p.1
    by true test further = let first : 0 ≡ suc i = once 0 x refl (sym (symbol_told p.0 x.0 test)) in absurd (omega (arith, first))
    by false test further = further

-- a spot that is found for a symbol is one of the list
spot_listed : (s : SymbolValue) (ps : List (SymbolValue × Spot)) (spot : Spot) → spot_of_symbol s ps ≡ Some spot
    → (i : ℕ) × ((p : SymbolValue × Spot) × ((slice_get ps i ≡ Some p) × (p.1 ≡ spot)))
spot_listed s [] spot e = absurd (cc e)
spot_listed s (x ∷ xs) spot e = by (same_symbol s x.0) (λ is. spot_listed s xs spot is) e
  where
    by : (b : Bool)
        → (spot_of_symbol s xs ≡ Some spot → (i : ℕ) × ((p : SymbolValue × Spot) × ((slice_get xs i ≡ Some p) × (p.1 ≡ spot))))
        → (if b then Some x.1 else spot_of_symbol s xs) ≡ Some spot
        → (i : ℕ) × ((p : SymbolValue × Spot) × ((slice_get (x ∷ xs) i ≡ Some p) × (p.1 ≡ spot)))
    by true further is = (0, (x, (refl, cc is)))
    by false further is = let there = further is in (suc there.0, there.1)

pointed : (o : Option Spot) (word : ℕ) → pointer_in o ≡ Some word → (spot : Spot) × ((o ≡ Some spot) × (pointer_to spot ≡ word))
pointed None word e = absurd (cc e)
pointed (Some spot) word e = (spot, (refl, cc e))

module _
    (names : List (List ℕ)) (places : Places) (symbols : List SymbolWord) (index : Index) (listed : AreSymbolsThere names symbols places.symbols)
    (once : AreDistinct places.symbols) (indexed : IsIndexOf symbols index)
  where
    pub indexed_below : (word : ℕ) (s : Symbol) → symbol_at word index ≡ Some s → SymbolBelow (length names) s
    indexed_below word s e =
        let i = indexed.found word s e in
        let p = listed_at names symbols places.symbols listed i.0 (record { word = word; symbol = s }) i.1 in
        p.1.1.named

    pub indexed_found : (word : ℕ) (s : Symbol) → symbol_at word index ≡ Some s → word_of places (symbol (symbol_of names s)) ≡ Some word
    indexed_found word s e =
        let i = indexed.found word s e in
        let p = listed_at names symbols places.symbols listed i.0 (record { word = word; symbol = s }) i.1 in
        let spot : spot_of_symbol p.0.0 places.symbols ≡ Some p.0.1 =
        spot_found places.symbols i.0 p.0 p.1.0 (λ j q there same. once j i.0 q p.0 there p.1.0 same) in
        ap (λ v. pointer_in (spot_of_symbol v places.symbols)) (sym p.1.1.symbol) ∙ ap pointer_in spot ∙ ap (λ w. Some w) (sym p.1.1.word)

    pub indexed_there : (s : SymbolValue) (word : ℕ) → word_of places (symbol s) ≡ Some word → IsSome (symbol_at word index)
    indexed_there s word e =
        let spot = pointed (spot_of_symbol s places.symbols) word e in
        let p = spot_listed s places.symbols spot.0 spot.1.0 in
        let x = spot_at names symbols places.symbols listed p.0 p.1.0 p.1.1.0 in
        let word_is : x.0.word ≡ word = x.1.1.word ∙ ap pointer_to p.1.1.1 ∙ spot.1.1 in
        subst (λ w. IsSome (symbol_at w index)) word_is (indexed.there p.0 x.0 (slice_get_within symbols p.0 x.0 x.1.0) x.1.0)

-- words from which a value is taken represent its state
abbrev pub stands_of :
    (names : List (List ℕ)) (z : meaning.State) (v : Value) (words : List ℕ) (word : ℕ) (symbols : List SymbolWord) (index : Index)
    → IsIndexOf symbols index → TakenFrom names z v words word symbols → Stands names z words index
stands_of names z v words word symbols index indexed t = record {
  program = t.program;
  places = t.places;
  machine = t.machine;
  represents = t.represents;
  same_words = t.same_words;
  below = indexed_below names t.places symbols index t.listed t.once indexed;
  found = indexed_found names t.places symbols index t.listed t.once indexed;
  there = indexed_there names t.places symbols index t.listed t.once indexed;
  serials = t.serials;
}
