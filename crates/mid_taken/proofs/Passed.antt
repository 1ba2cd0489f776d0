-- What is taken so far of a vector or of a list: whatever the rest comes to, the whole comes to that behind it.
use Rattle.std.proofs.Common.{◌≡◌, ℕ, ◌+◌, ◌<◌, List, [], ◌∷◌, ◌++◌, length, drop, Some, refl, sym, ap, subst, arith}
use Rattle.std.specs.Prelude.{slice_get, slice_index_or}
use Rattle.std.specs.Option.{unwrap_or}
use Rattle.std.proofs.lemmas.Option.{slice_get-get_or}
use Rattle.base.specs.declared.reason.Reason.{Reason}
use Rattle.base.specs.Data.{Item, Items, no_item, item_and, items_of, Tail}
use Rattle.base.specs.model.DataRest.{rest_at}
use Rattle.lang_meaning.specs.Values.{Value, nil}
use Rattle.lang_meaning.specs.State as meaning
use Rattle.mid_arena.specs.Places.{word_of}
use Rattle.lang_taken.specs.Shapes.{Shape, shape_of}
use Rattle.lang_taken.specs.Taken.{TakesElements, an_element, TakesChain, at_cons}
use Rattle.lang_taken.specs.Failing.{FailsElements, in_element, behind_element, FailsChain, in_car, in_cdr}
use Rattle.mid_taken.specs.declared.parts.Part.{Part}
use Rattle.mid_taken.specs.declared.parts.Part.TheVariants.{Cons}
use Rattle.mid_taken.specs.declared.memory.Memory.{Memory}
use Rattle.mid_taken.specs.Stands.{Stands}
use Rattle.mid_taken.specs.Parts.{IsPart, IsPartAt, IsCons, ValuesIn}
use Rattle.mid_taken.specs.Taking.{WordTaken, WordFails}
use Rattle.mid_taken.proofs.Found.{word_is}

-- data in front of others
abbrev pub in_front : List Item → Items → Items
in_front [] ds = ds
in_front (e ∷ es) ds = item_and e (in_front es ds)

pub front_more : (es : List Item) (d : Item) (ds : Items) → in_front (es ++ d ∷ []) ds ≡ in_front es (item_and d ds)
front_more [] d ds = refl
front_more (e ∷ es) d ds = ap (item_and e) (front_more es d ds)

pub front_all : (es : List Item) → in_front es no_item ≡ items_of es
front_all [] = refl
front_all (e ∷ es) = ap (item_and e) (front_all es)

-- ---- elements

pub record ElementsPassed (from : Memory) (at count deep left_before : ℕ) (items : List Item) (k left : ℕ) : Type 0 where
  pub taken :
      (names : List (List ℕ)) (z : meaning.State) (m : Stands names z from.words.now from.symbols.now) (vs : List Value) → length vs ≡ count
      → ValuesIn m.places from.words.now at vs → (ds : Items) (rest : ℕ) → TakesElements names z.store from.place from.expansion deep left (drop k vs) ds rest
      → TakesElements names z.store from.place from.expansion deep left_before vs (in_front items ds) rest
  pub fails :
      (names : List (List ℕ)) (z : meaning.State) (m : Stands names z from.words.now from.symbols.now) (vs : List Value) → length vs ≡ count
      → ValuesIn m.places from.words.now at vs → (r : Reason) → FailsElements names z.store from.place from.expansion deep left (drop k vs) r
      → FailsElements names z.store from.place from.expansion deep left_before vs r

pub none_passed : (from : Memory) (at count deep left : ℕ) → ElementsPassed from at count deep left [] 0 left
none_passed from at count deep left = record { taken = λ names z m vs n there ds rest h. h; fails = λ names z m vs n there r h. h }

module _
    (from : Memory) (at count deep left_before : ℕ) (items : List Item) (k left : ℕ) (p : ElementsPassed from at count deep left_before items k left) (below : k < count)
    (word : ℕ) (read : word ≡ unwrap_or (slice_get from.words.now (at + k)) 0)
  where
    -- an element, and those behind it
    here : (vs : List Value) → length vs ≡ count → drop k vs ≡ slice_index_or vs k nil ∷ drop (k + 1) vs
    here vs n = rest_at vs k (slice_index_or vs k nil) (slice_get-get_or vs k nil (omega (arith, n, below)))

    -- its word
    its_word :
        (names : List (List ℕ)) (z : meaning.State) (m : Stands names z from.words.now from.symbols.now) (vs : List Value) → length vs ≡ count
        → ValuesIn m.places from.words.now at vs → word_of m.places (slice_index_or vs k nil) ≡ Some word
    its_word names z m vs n there = word_is m.places from.words.now (at + k) word (slice_index_or vs k nil) (there.each k (omega (arith, n, below))) read

    pub element_passed : (d : Item) (rest : ℕ) → WordTaken from word deep left d rest → ElementsPassed from at count deep left_before (items ++ d ∷ []) (k + 1) rest
    element_passed d middle w = record {
      taken = λ names z m vs n there ds rest h.
          let first = w.there names z m (slice_index_or vs k nil) (its_word names z m vs n there) in
          let P : List Value → Type 0 = λ us. TakesElements names z.store from.place from.expansion deep left us (item_and d ds) rest in
          let both : P (drop k vs) = subst P (sym (here vs n)) (an_element deep left middle rest (slice_index_or vs k nil) (drop (k + 1) vs) d ds first h) in
          let Q : Items → Type 0 = λ es. TakesElements names z.store from.place from.expansion deep left_before vs es rest in
          subst Q (sym (front_more items d ds)) (p.taken names z m vs n there (item_and d ds) rest both);
      fails = λ names z m vs n there r h.
          let first = w.there names z m (slice_index_or vs k nil) (its_word names z m vs n there) in
          let P : List Value → Type 0 = λ us. FailsElements names z.store from.place from.expansion deep left us r in
          p.fails names z m vs n there r
          (subst P (sym (here vs n)) (behind_element deep left middle (slice_index_or vs k nil) (drop (k + 1) vs) d r first h));
    }

    -- one that is refused
    pub element_fails :
        (r : Reason) → WordFails from word deep left r
        → (names : List (List ℕ)) (z : meaning.State) (m : Stands names z from.words.now from.symbols.now) (vs : List Value) → length vs ≡ count
        → ValuesIn m.places from.words.now at vs → FailsElements names z.store from.place from.expansion deep left_before vs r
    element_fails r w names z m vs n there =
        let P : List Value → Type 0 = λ us. FailsElements names z.store from.place from.expansion deep left us r in
        p.fails names z m vs n there r
        (subst P (sym (here vs n)) (in_element deep left (slice_index_or vs k nil) (drop (k + 1) vs) r
        (w.there names z m (slice_index_or vs k nil) (its_word names z m vs n there))))

-- ---- chains of conses

-- what the first cons comes to, by what comes at a later part of the chain
pub record Onward
    (from : Memory) (names : List (List ℕ)) (z : meaning.State) (m : Stands names z from.words.now from.symbols.now) (deep left_before : ℕ) (first : Shape)
    (items : List Item) (part : Part) (left : ℕ) : Type 0 where
  pub shape : Shape
  pub is_part : IsPart names m.places from.words.now from.expansion shape part
  pub taken :
      (ds : Items) (t : Tail) (rest : ℕ) → TakesChain names z.store from.place from.expansion deep left shape ds t rest
      → TakesChain names z.store from.place from.expansion deep left_before first (in_front items ds) t rest
  pub fails :
      (r : Reason) → FailsChain names z.store from.place from.expansion deep left shape r
      → FailsChain names z.store from.place from.expansion deep left_before first r

pub record ChainPassed (from : Memory) (whole : Part) (deep left_before : ℕ) (items : List Item) (part : Part) (left : ℕ) : Type 0 where
  pub there :
      (names : List (List ℕ)) (z : meaning.State) (m : Stands names z from.words.now from.symbols.now) (first : Shape)
      → IsPart names m.places from.words.now from.expansion first whole → Onward from names z m deep left_before first items part left

pub chain_begins : (from : Memory) (whole : Part) (deep left : ℕ) → ChainPassed from whole deep left [] whole left
chain_begins from whole deep left = record {
  there = λ names z m first h. record { shape = first; is_part = h; taken = λ ds t rest x. x; fails = λ r x. x };
}

module _
    (from : Memory) (whole : Part) (deep left_before : ℕ) (items : List Item) (car cdr left : ℕ)
    (p : ChainPassed from whole deep left_before items (Cons car cdr) left)
  where
    cons_passed :
        (d : Item) (middle : ℕ) (part : Part) → WordTaken from car deep left d middle → IsPartAt from cdr part
        → (names : List (List ℕ)) (z : meaning.State) (m : Stands names z from.words.now from.symbols.now) (first s : Shape)
        → IsCons m.places car cdr s
        → ((ds : Items) (t : Tail) (rest : ℕ) → TakesChain names z.store from.place from.expansion deep left s ds t rest
        → TakesChain names z.store from.place from.expansion deep left_before first (in_front items ds) t rest)
        → ((r : Reason) → FailsChain names z.store from.place from.expansion deep left s r
        → FailsChain names z.store from.place from.expansion deep left_before first r)
        → Onward from names z m deep left_before first (items ++ d ∷ []) part middle
    cons_passed d middle part w q names z m first s is takes fails = record {
      shape = shape_of z.store is.second;
      is_part = q.there names z m is.second is.cdr_is;
      taken = λ ds t rest h.
          let P : Shape → Type 0 = λ x. TakesChain names z.store from.place from.expansion deep left x (item_and d ds) t rest in
          let here : P s =
          subst P (sym is.shape_is) (at_cons deep left middle rest is.first is.second d ds t (w.there names z m is.first is.car_is) h) in
          let Q : Items → Type 0 = λ es. TakesChain names z.store from.place from.expansion deep left_before first es t rest in
          subst Q (sym (front_more items d ds)) (takes (item_and d ds) t rest here);
      fails = λ r h.
          let P : Shape → Type 0 = λ x. FailsChain names z.store from.place from.expansion deep left x r in
          fails r (subst P (sym is.shape_is) (in_cdr deep left middle is.first is.second d r (w.there names z m is.first is.car_is) h));
    }

    pub chain_goes_on :
        (d : Item) (middle : ℕ) (part : Part) → WordTaken from car deep left d middle → IsPartAt from cdr part
        → ChainPassed from whole deep left_before (items ++ d ∷ []) part middle
    chain_goes_on d middle part w q = record {
      there = λ names z m first h.
          let o = p.there names z m first h in cons_passed d middle part w q names z m first o.shape o.is_part o.taken o.fails;
    }

    -- an item that is refused
    pub chain_fails :
        (r : Reason) → WordFails from car deep left r
        → (names : List (List ℕ)) (z : meaning.State) (m : Stands names z from.words.now from.symbols.now) (first : Shape)
        → IsPart names m.places from.words.now from.expansion first whole → FailsChain names z.store from.place from.expansion deep left_before first r
    chain_fails r w names z m first h =
        let o = p.there names z m first h in
        let is : IsCons m.places car cdr o.shape = o.is_part in
        let P : Shape → Type 0 = λ x. FailsChain names z.store from.place from.expansion deep left x r in
        o.fails r (subst P (sym is.shape_is) (in_car deep left is.first is.second r (w.there names z m is.first is.car_is)))
