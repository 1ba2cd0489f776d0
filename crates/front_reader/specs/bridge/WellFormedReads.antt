-- What is read is in form, has its names in the table, and took bytes of the text.
use Rattle.std.specs.Prelude.{ℕ, suc, ◌<◌, ◌≤◌, ◌≡◌, ◌≢◌, Bool, true, false, nat_lt, pos, negsuc, neg_ℤ, ◌≤ℤ◌, List, [], ◌∷◌, ◌++◌, length, map, Option, Some, None, if◌then◌else◌, codes, refl}
use Rattle.std.specs.Str.{bytes_eq}
use Rattle.std.proofs.Common.{arith, sym, subst, ap, length-append}
use Rattle.std.proofs.lemmas.Int.{ints}
use Rattle.std.proofs.lemmas.Bool.{ltb-false}
use Rattle.base.specs.declared.place.Place.{Place}
use Rattle.base.specs.declared.datum.Symbol.TheVariants.{Named}
use Rattle.base.specs.Data.{Item, item, Content, integer, character, symbol, string, vector, nil, list, Items, no_item, items_of}
use Rattle.base.specs.DataMeasures.{Formed, FormedInside, AllFormed, NamesBelow, NamesBelowInside, AllNamesBelow}
use Rattle.base.specs.AllOf.{AllOf}
use Rattle.base.specs.WellFormedData.{WellFormed}
use Rattle.front_reader.specs.declared.opening.Prefix.{Prefix}
use Rattle.front_reader.specs.declared.opening.Prefix.TheVariants.{Quote, Quasiquote, Unquote, UnquoteSplicing, Function}
use Rattle.front_reader.specs.Characters.{begins, is_token, folded, place_behind}
use Rattle.front_reader.specs.Tokens.{is_negative, magnitude, integer_value, is_wide}
use Rattle.front_reader.specs.Atoms.{Atom, a_symbol, Spells, decimal, token, barred, quoted, based, marked, lettered, space, newline}
use Rattle.front_reader.specs.Trees.{Tree, atom, proper, improper, row, prefixed, Trees, no_tree, then_tree, prefix_bytes, spelled, spelled_all, behind_all, Stands, StandsAll, IsSomeTree}
use Rattle.front_reader.specs.Meanings.{one_later, number_in, named, atom_content, prefix_name, list_content, in_front, joined, prefix_item, Means, MeansAll}
use Rattle.front_reader.specs.Reads.{ReadsNext}

-- ---- names

below_if : (b : Bool) (o : Option ℕ) (n l : ℕ) → ((m : ℕ) → o ≡ Some m → m < l) → (if b then Some 0 else one_later o) ≡ Some n → n < suc l
below_if true o n l k h = let same : 0 ≡ n = cc in omega arith
below_if false None n l k h = absurd (cc)
below_if false (Some m) n l k h = let same : suc m ≡ n = cc in let less : m < l = k m refl in omega arith

-- a number of the table is below its length
number_below : (names : List (List ℕ)) (t : List ℕ) (n : ℕ) → number_in names t ≡ Some n → n < length names
unfolding number_in
number_below [] t n h = absurd (cc)
number_below (s ∷ ss) t n h = below_if (bytes_eq t s) (number_in ss t) n (length ss) (λ m e. number_below ss t m e) h

-- ---- atoms

-- what is in form, with its names there
record WellFormedContent (n : ℕ) (c : Content) : Type 0 where
  pub formed : FormedInside c
  pub named : NamesBelowInside n c

narrow_integer : (b : Bool) (m : ℕ) → nat_lt (if b then 536870912 else 536870911) m ≡ false →
    (negsuc 536870911 ≤ℤ (if b then neg_ℤ (pos m) else pos m)) × ((if b then neg_ℤ (pos m) else pos m) ≤ℤ pos 536870911)
narrow_integer true m h = let fits : m ≤ 536870912 = ltb-false 536870912 m h in (omega (arith, ints), omega (arith, ints))
narrow_integer false m h = let fits : m ≤ 536870911 = ltb-false 536870911 m h in (omega (arith, ints), omega (arith, ints))

good_integer : (n base : ℕ) (w : List ℕ) (c : Content) → is_wide base w ≡ false → Some (integer (integer_value base w)) ≡ Some c → WellFormedContent n c
unfolding magnitude Formed NamesBelow
good_integer n base w c v e =
    let same : integer (integer_value base w) ≡ c = cc in
    subst (WellFormedContent n) same (record { formed = narrow_integer (is_negative w) (magnitude base w) v; named = tt })

good_character : (n b : ℕ) (c : Content) → Some (character b) ≡ Some c → WellFormedContent n c
unfolding Formed NamesBelow
good_character n b c e = let same : character b ≡ c = cc in subst (WellFormedContent n) same (record { formed = tt; named = tt })

good_string : (n : ℕ) (bytes : List ℕ) (c : Content) → Some (string bytes) ≡ Some c → WellFormedContent n c
unfolding Formed NamesBelow
good_string n bytes c e = let same : string bytes ≡ c = cc in subst (WellFormedContent n) same (record { formed = tt; named = tt })

good_named : (n : ℕ) (o : Option ℕ) (c : Content) → ((m : ℕ) → o ≡ Some m → m < n) → named o ≡ Some c → WellFormedContent n c
unfolding Formed NamesBelow
good_named n None c k e = absurd (cc)
good_named n (Some m) c k e =
    let same : symbol (Named (record { 0 = m })) ≡ c = cc in
    subst (WellFormedContent n) same (record { formed = tt; named = k m refl })

good_symbol : (n : ℕ) (b : Bool) (o : Option ℕ) (c : Content) → ((m : ℕ) → o ≡ Some m → m < n) → (if b then Some nil else named o) ≡ Some c → WellFormedContent n c
unfolding Formed NamesBelow
good_symbol n true o c k e = let same : nil ≡ c = cc in subst (WellFormedContent n) same (record { formed = tt; named = tt })
good_symbol n false o c k e = good_named n o c k e

good_name : (names : List (List ℕ)) (text : List ℕ) (c : Content) → atom_content (number_in names) (a_symbol text) ≡ Some c → WellFormedContent (length names) c
good_name names text c e = good_symbol (length names) (bytes_eq text (codes "nil")) (number_in names text) c (number_below names text) e

good_atom : (names : List (List ℕ)) (b after : List ℕ) (a : Atom) (c : Content) → Spells b after a → atom_content (number_in names) a ≡ Some c → WellFormedContent (length names) c
good_atom names _ _ _ c (decimal w after k i v) e = good_integer (length names) 10 w c v e
good_atom names _ _ _ c (token w after k i f d l) e = good_name names (map folded w) c e
good_atom names _ _ _ c (barred bs after name k l) e = good_name names name c e
good_atom names _ _ _ c (quoted bs after content k) e = good_string (length names) content c e
good_atom names _ _ _ c (based letter base w after k l i v) e = good_integer (length names) base w c v e
good_atom names _ _ _ c (marked b after k) e = good_character (length names) b c e
good_atom names _ _ _ c (lettered b after k) e = good_character (length names) b c e
good_atom names _ _ _ c (space w after k s) e = good_character (length names) 32 c e
good_atom names _ _ _ c (newline w after k s) e = good_character (length names) 10 c e

good_content : (n : ℕ) (p : Place) (c : Content) → WellFormedContent n c → WellFormed n (item p c)
unfolding Formed NamesBelow
good_content n p c g = record { formed = g.formed; named = g.named }

-- ---- lists

record WellFormedItems (n : ℕ) (ds : Items) : Type 0 where
  pub formed : AllFormed ds
  pub named : AllNamesBelow n ds

good_items : (n : ℕ) (ds : List Item) → AllOf (WellFormed n) ds → WellFormedItems n (items_of ds)
unfolding Formed NamesBelow
good_items n [] h = record { formed = tt; named = tt }
good_items n (d ∷ ds) h =
    let rest = good_items n ds h.1 in
    record { formed = (h.0.formed, rest.formed); named = (h.0.named, rest.named) }

good_front : (n : ℕ) (ds : List Item) (es : Items) → AllOf (WellFormed n) ds → WellFormedItems n es → WellFormedItems n (in_front ds es)
unfolding Formed NamesBelow
good_front n [] es h g = g
good_front n (d ∷ ds) es h g =
    let rest = good_front n ds es h.1 g in
    record { formed = (h.0.formed, rest.formed); named = (h.0.named, rest.named) }

good_more : (n : ℕ) (ds : List Item) (d : Item) → AllOf (WellFormed n) ds → WellFormed n d → AllOf (WellFormed n) (ds ++ d ∷ [])
good_more n [] d h g = (g, tt)
good_more n (e ∷ es) d h g = (h.0, good_more n es d h.1 g)

good_list : (n : ℕ) (p : Place) (ds : List Item) → AllOf (WellFormed n) ds → WellFormed n (item p (list_content ds))
unfolding Formed NamesBelow
good_list n p [] h = record { formed = tt; named = tt }
good_list n p (d ∷ ds) h =
    let all = good_items n (d ∷ ds) h in
    record { formed = (λ e. absurd (cc), all.formed, tt); named = (all.named, tt) }

good_vector : (n : ℕ) (p : Place) (ds : List Item) → AllOf (WellFormed n) ds → WellFormed n (item p (vector (items_of ds)))
unfolding Formed NamesBelow
good_vector n p ds h = let all = good_items n ds h in record { formed = all.formed; named = all.named }

abbrev IsSome : List Item → Type 0
IsSome [] = ⊥
IsSome (d ∷ ds) = Unit {0}

some_items : (ds : List Item) → IsSome ds → items_of ds ≢ no_item
some_items [] h = absurd h
some_items (d ∷ ds) h = λ e. absurd (cc)

some_front : (ds : List Item) (es : Items) → IsSome ds → in_front ds es ≢ no_item
some_front [] es h = absurd h
some_front (d ∷ ds) es h = λ e. absurd (cc)

good_joined : (n : ℕ) (p : Place) (ds : List Item) (e : Item) → IsSome ds → AllOf (WellFormed n) ds → WellFormed n e → WellFormed n (item p (joined ds e))
unfolding Formed NamesBelow
good_joined n p ds (item q (integer z)) s h g =
    let all = good_items n ds h in record { formed = (some_items ds s, all.formed, (tt, g.formed)); named = (all.named, g.named) }
good_joined n p ds (item q (character z)) s h g =
    let all = good_items n ds h in record { formed = (some_items ds s, all.formed, (tt, g.formed)); named = (all.named, g.named) }
good_joined n p ds (item q (symbol z)) s h g =
    let all = good_items n ds h in record { formed = (some_items ds s, all.formed, (tt, g.formed)); named = (all.named, g.named) }
good_joined n p ds (item q (string z)) s h g =
    let all = good_items n ds h in record { formed = (some_items ds s, all.formed, (tt, g.formed)); named = (all.named, g.named) }
good_joined n p ds (item q (vector es)) s h g =
    let all = good_items n ds h in record { formed = (some_items ds s, all.formed, (tt, g.formed)); named = (all.named, g.named) }
good_joined n p ds (item q nil) s h g =
    let all = good_items n ds h in record { formed = (some_items ds s, all.formed, tt); named = (all.named, tt) }
good_joined n p ds (item q (list es t)) s h g =
    let all = good_front n ds es h (record { formed = g.formed.1; named = g.named.0 }) in
    record { formed = (some_front ds es s, all.formed, g.formed.2); named = (all.named, g.named.1) }

good_prefix : (n : ℕ) (p : Place) (m : ℕ) (d : Item) → m < n → WellFormed n d → WellFormed n (prefix_item p m d)
unfolding Formed NamesBelow
good_prefix n p m d less g = record {
  formed = (λ e. absurd (cc), (tt, (g.formed, tt)), tt);
  named = ((less, (g.named, tt)), tt);
}

-- ---- trees

some_last : (ds : List Item) (d : Item) → IsSome (ds ++ d ∷ [])
some_last [] d = tt
some_last (e ∷ es) d = tt

some_of : (number : List ℕ → Option ℕ) (p : Place) (ts : Trees) (ds : List Item) → IsSomeTree ts → MeansAll number p ts ds → IsSome ds
unfolding Means MeansAll
some_of number p no_tree ds s m = absurd s
some_of number p (then_tree ts g t) ds s m = subst IsSome (sym m.1.1.2) (some_last m.0 m.1.0)

mutual
  unfolding Stands StandsAll Means MeansAll

  good_tree : (names : List (List ℕ)) (n : ℕ) (t : Tree) (after : List ℕ) (p : Place) (d : Item) → Stands n t after → Means (number_in names) p t d
      → WellFormed (length names) d
  good_tree names n (atom b a) after p d s m =
      let inside = good_atom names b after a m.0 s m.1.0 in
      subst (WellFormed (length names)) (sym m.1.1) (good_content (length names) p m.0 inside)
  good_tree names n (proper ts g) after p d s m =
      subst (WellFormed (length names)) (sym m.1.1)
      (good_list (length names) p m.0 (good_trees names (suc n) ts (g ++ 41 ∷ after) (place_behind p (40 ∷ [])) m.0 s.1 m.1.0))
  good_tree names n (improper ts g h t i) after p d s m =
      let inner = i ++ 41 ∷ after in
      subst (WellFormed (length names)) (sym m.1.1.2)
      (good_joined (length names) p m.0 m.1.0 (some_of (number_in names) (place_behind p (40 ∷ [])) ts m.0 s.1 m.1.1.0)
      (good_trees names (suc n) ts (g ++ 46 ∷ (h ++ spelled t inner)) (place_behind p (40 ∷ [])) m.0 s.2 m.1.1.0)
      (good_tree names (suc n) t inner (place_behind (place_behind (place_behind (behind_all (place_behind p (40 ∷ [])) ts) g) (46 ∷ [])) h) m.1.0 s.6 m.1.1.1))
  good_tree names n (row ts g) after p d s m =
      subst (WellFormed (length names)) (sym m.1.1)
      (good_vector (length names) p m.0 (good_trees names (suc n) ts (g ++ 41 ∷ after) (place_behind p (35 ∷ 40 ∷ [])) m.0 s.1 m.1.0))
  good_tree names n (prefixed x g t) after p d s m =
      subst (WellFormed (length names)) (sym m.1.1.2)
      (good_prefix (length names) p m.0 m.1.0 (number_below names (prefix_name x) m.0 m.1.1.0)
      (good_tree names (suc n) t after (place_behind (place_behind p (prefix_bytes x)) g) m.1.0 s.3 m.1.1.1))

  good_trees : (names : List (List ℕ)) (n : ℕ) (ts : Trees) (after : List ℕ) (p : Place) (ds : List Item) → StandsAll n ts after → MeansAll (number_in names) p ts ds
      → AllOf (WellFormed (length names)) ds
  good_trees names n no_tree after p ds s m = subst (AllOf (WellFormed (length names))) (sym m) tt
  good_trees names n (then_tree ts g t) after p ds s m =
      subst (AllOf (WellFormed (length names))) (sym m.1.1.2)
      (good_more (length names) m.0 m.1.0
      (good_trees names n ts (g ++ spelled t after) p m.0 s.0 m.1.1.0)
      (good_tree names n t after (place_behind (behind_all p ts) g) m.1.0 s.2 m.1.1.1))

-- the next datum of a text is in form, and its names are in the table
pub next_good : (names : List (List ℕ)) (text : List ℕ) (p : Place) (d : Item) (after : List ℕ) → ReadsNext names text p d after → WellFormed (length names) d
next_good names text p d after r = good_tree names 0 r.reads.tree after (place_behind p r.gap) d r.reads.stands r.reads.means

-- ---- bytes

begins_some : (p : ℕ → Bool) (w : List ℕ) → begins p w ≡ true → 0 < length w
begins_some p [] h = absurd (cc)
begins_some p (b ∷ bs) h = omega arith

-- a spelling has a byte at least
pub some_bytes : (b after : List ℕ) (a : Atom) → Spells b after a → 0 < length b
some_bytes _ _ _ (decimal w after k i v) = begins_some is_token w k.some
some_bytes _ _ _ (token w after k i f d l) = begins_some is_token w k.some
some_bytes _ _ _ (barred bs after name k l) = omega arith
some_bytes _ _ _ (quoted bs after content k) = omega arith
some_bytes _ _ _ (based letter base w after k l i v) = omega arith
some_bytes _ _ _ (marked b after k) = omega arith
some_bytes _ _ _ (lettered b after k) = omega arith
some_bytes _ _ _ (space w after k e) = omega arith
some_bytes _ _ _ (newline w after k e) = omega arith

pub prefix_some : (x : Prefix) → 0 < length (prefix_bytes x)
prefix_some Quote = omega arith
prefix_some Quasiquote = omega arith
prefix_some Unquote = omega arith
prefix_some UnquoteSplicing = omega arith
prefix_some Function = omega arith

-- what stands behind a tree is part of the text
mutual
  unfolding spelled spelled_all

  behind_tree : (t : Tree) (rest : List ℕ) → length rest ≤ length (spelled t rest)
  behind_tree (atom b a) rest = omega (arith, length-append b rest)
  behind_tree (proper ts g) rest = omega (arith, behind_trees ts (g ++ 41 ∷ rest), length-append g (41 ∷ rest))
  behind_tree (improper ts g h t i) rest =
      let inner = i ++ 41 ∷ rest in
      omega (
        arith,
        behind_trees ts (g ++ 46 ∷ (h ++ spelled t inner)),
        length-append g (46 ∷ (h ++ spelled t inner)),
        length-append h (spelled t inner),
        behind_tree t inner,
        length-append i (41 ∷ rest),
      )
  behind_tree (row ts g) rest = omega (arith, behind_trees ts (g ++ 41 ∷ rest), length-append g (41 ∷ rest))
  behind_tree (prefixed x g t) rest =
      omega (arith, length-append (prefix_bytes x) (g ++ spelled t rest), length-append g (spelled t rest), behind_tree t rest)

  behind_trees : (ts : Trees) (rest : List ℕ) → length rest ≤ length (spelled_all ts rest)
  behind_trees no_tree rest = omega arith
  behind_trees (then_tree ts g t) rest =
      omega (arith, behind_trees ts (g ++ spelled t rest), length-append g (spelled t rest), behind_tree t rest)

-- a tree has a byte at least
tree_some : (n : ℕ) (t : Tree) (rest : List ℕ) → Stands n t rest → length rest < length (spelled t rest)
unfolding Stands spelled
tree_some n (atom b a) rest s = omega (arith, length-append b rest, some_bytes b rest a s)
tree_some n (proper ts g) rest s = omega (arith, behind_trees ts (g ++ 41 ∷ rest), length-append g (41 ∷ rest))
tree_some n (improper ts g h t i) rest s =
    let inner = i ++ 41 ∷ rest in
    omega (
      arith,
      behind_trees ts (g ++ 46 ∷ (h ++ spelled t inner)),
      length-append g (46 ∷ (h ++ spelled t inner)),
      length-append h (spelled t inner),
      behind_tree t inner,
      length-append i (41 ∷ rest),
    )
tree_some n (row ts g) rest s = omega (arith, behind_trees ts (g ++ 41 ∷ rest), length-append g (41 ∷ rest))
tree_some n (prefixed x g t) rest s =
    omega (arith, prefix_some x, length-append (prefix_bytes x) (g ++ spelled t rest), length-append g (spelled t rest), behind_tree t rest)

-- the next datum takes bytes
pub next_shorter : (names : List (List ℕ)) (text : List ℕ) (p : Place) (d : Item) (after : List ℕ) → ReadsNext names text p d after
    → length after < length text
next_shorter names text p d after r =
    omega (
      arith,
      tree_some 0 r.reads.tree after r.reads.stands,
      ap length r.reads.spells,
      ap length r.front,
      length-append r.gap (r.bytes ++ after),
    )
