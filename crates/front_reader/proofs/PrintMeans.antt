-- The tree of a printed datum means that datum, places aside.
use Rattle.std.specs.Prelude.{◌≡◌, ℕ, zero, suc, Bool, true, false, List, [], ◌∷◌, ◌++◌, Option, Some, None, slice_get, codes, refl}
use Rattle.std.specs.Str.{bytes_eq}
use Rattle.std.proofs.Common.{sym, ◌∙◌, ap, subst, append_assoc, append-nil}
use Rattle.std.proofs.lemmas.Option.{get_or_from_slice_get}
use Rattle.std.proofs.lemmas.Slice.Eq.{bytes_eq-Decides}
use Rattle.base.specs.declared.place.Place.{Place}
use Rattle.base.specs.declared.datum.Symbol.{Symbol}
use Rattle.base.specs.declared.datum.Symbol.TheVariants.{Named, Fresh}
use Rattle.base.specs.Names.{IsTable}
use Rattle.base.specs.Data.{Item, item, Content, integer, character, symbol, string, vector, nil, list, Items, no_item, item_and, items_of, Tail, no_tail, dotted}
use Rattle.base.specs.DataMeasures.{Formed, FormedInside, AllFormed, FormedTail, IsNoList}
use Rattle.front_reader.specs.Characters.{place_behind}
use Rattle.front_reader.specs.Atoms.{a_symbol}
use Rattle.front_reader.specs.Trees.{Tree, Trees, no_tree, then_tree, behind_all}
use Rattle.front_reader.specs.Meanings.{number_in, atom_content, list_content, joined, Means, MeansAll}
use Rattle.front_reader.specs.Printing.{symbol_text, NameSpelled, SymbolSpelled, IsSpelled, ContentSpelled, AllSpelled, TailSpelled, nowhere, unplaced, content_unplaced, items_unplaced}
use Rattle.front_reader.proofs.PrintTrees.{space, tree_of, content_tree, list_tree, trees_onto}

-- a text that stands once in a table has the number of its place
number_once : (names : List (List ℕ)) (n : ℕ) (t : List ℕ) → ((i : ℕ) → slice_get names i ≡ Some t → i ≡ n) → slice_get names n ≡ Some t
    → number_in names t ≡ Some n
unfolding number_in
number_once [] n t once h = absurd (cc)
number_once (s ∷ ss) zero t once h =
    let same : t ≡ s = cc in
    let is : bytes_eq t s ≡ true = (bytes_eq-Decides t s).1 same in
    rw is refl
number_once (s ∷ ss) (suc n) t once h = by (bytes_eq t s) refl (number_once ss n t (λ i e. let k : suc i ≡ suc n = once (suc i) e in cc) h)
  where
    by : (b : Bool) → bytes_eq t s ≡ b → number_in ss t ≡ Some n → number_in (s ∷ ss) t ≡ Some (suc n)
    by true is rest =
        let same : t ≡ s = (bytes_eq-Decides t s).0 is in
        let first : 0 ≡ suc n = once 0 (ap Some (sym same)) in
        absurd (cc)
    by false is rest = rw (is, rest) refl

number_of : (names : List (List ℕ)) (n : ℕ) (t : List ℕ) → IsTable names → slice_get names n ≡ Some t → number_in names t ≡ Some n
number_of names n t table h = number_once names n t (λ i e. table.once i n t e h) h

-- the content of a symbol's atom
symbol_is : (names : List (List ℕ)) (s : Symbol) → IsTable names → SymbolSpelled names s
    → atom_content (number_in names) (a_symbol (symbol_text names s)) ≡ Some (symbol s)
symbol_is names (Fresh expansion serial) table h = absurd h
symbol_is names (Named name) table h = by (slice_get names name.0) refl h
  where
    by : (o : Option (List ℕ)) → slice_get names name.0 ≡ o → NameSpelled o
        → atom_content (number_in names) (a_symbol (symbol_text names (Named name))) ≡ Some (symbol (Named name))
    by None is h = absurd h
    by (Some text) is h =
        let same : symbol_text names (Named name) ≡ text = get_or_from_slice_get names name.0 text [] is in
        let other : bytes_eq text (codes "nil") ≡ false = h.0 in
        let number : number_in names text ≡ Some name.0 = number_of names name.0 text table is in
        rw (same, other, number) refl

-- whether a datum is a list does not hang on places
placed_no_list : (c : Content) → IsNoList (content_unplaced c) → IsNoList c
placed_no_list (integer n) h = h
placed_no_list (character b) h = h
placed_no_list (symbol s) h = h
placed_no_list (string bytes) h = h
placed_no_list (vector ds) h = h
placed_no_list nil h = h
placed_no_list (list ds t) h = h

unplaced_no_list : (c : Content) → IsNoList c → IsNoList (content_unplaced c)
unplaced_no_list (integer n) h = h
unplaced_no_list (character b) h = h
unplaced_no_list (symbol s) h = h
unplaced_no_list (string bytes) h = h
unplaced_no_list (vector ds) h = h
unplaced_no_list nil h = h
unplaced_no_list (list ds t) h = h

-- a tail that is no list is not joined
joined_plain : (ds : List Item) (p : Place) (c : Content) → IsNoList c → joined ds (item p c) ≡ list (items_of ds) (dotted (item p c))
joined_plain ds p (integer n) h = refl
joined_plain ds p (character b) h = refl
joined_plain ds p (symbol s) h = refl
joined_plain ds p (string bytes) h = refl
joined_plain ds p (vector es) h = refl
joined_plain ds p nil h = absurd h
joined_plain ds p (list es t) h = absurd h

-- a list with an item is no `()`
some_list : (es : List Item) (ds : Items) → items_unplaced (items_of es) ≡ items_unplaced ds → (ds ≡ no_item → ⊥)
    → content_unplaced (list_content es) ≡ list (items_unplaced ds) no_tail
some_list [] no_item e h = absurd (h refl)
some_list [] (item_and d ds) e h = absurd (cc)
some_list (x ∷ xs) ds e h = ap (λ i. list i no_tail) e

-- a list with a tail
dotted_same : (es : List Item) (ds : Items) (e : Item) (r : Place) (c : Content) → unplaced e ≡ unplaced (item r c) → IsNoList c
    → items_unplaced (items_of es) ≡ items_unplaced ds
    → content_unplaced (joined es e) ≡ list (items_unplaced ds) (dotted (unplaced (item r c)))
dotted_same es ds (item p k) r c same plain all =
    let content : content_unplaced k ≡ content_unplaced c = cc in
    let no_list : IsNoList k = placed_no_list k (subst IsNoList (sym content) (unplaced_no_list c plain)) in
    rw (joined_plain es p k no_list)
    (ap (λ i. list i (dotted (item nowhere (content_unplaced k)))) all ∙ ap (λ x. list (items_unplaced ds) (dotted x)) same)

-- a tree at a place means a datum that is this one, places aside
pub record Meant (names : List (List ℕ)) (p : Place) (t : Tree) (d : Item) : Type 0 where
  pub datum : Item
  pub means : Means (number_in names) p t datum
  pub same : unplaced datum ≡ unplaced d

-- the same of data behind others
record AllMeant (names : List (List ℕ)) (p : Place) (ts : Trees) (before : List Item) (ds : Items) : Type 0 where
  data_behind : List Item
  means : MeansAll (number_in names) p ts (before ++ data_behind)
  same : items_unplaced (items_of data_behind) ≡ items_unplaced ds

mutual
  unfolding tree_of content_tree list_tree trees_onto Means MeansAll Formed FormedInside AllFormed FormedTail IsSpelled ContentSpelled AllSpelled TailSpelled

  pub tree_means : (names : List (List ℕ)) → IsTable names → (p : Place) (d : Item) → Formed d → IsSpelled names d → Meant names p (tree_of names d) d
  tree_means names table p (item q c) f s = content_means names table p q c f s

  content_means : (names : List (List ℕ)) → IsTable names → (p q : Place) (c : Content) → FormedInside c → ContentSpelled names c
      → Meant names p (content_tree names c) (item q c)
  content_means names table p q (integer n) f s = record { datum = item p (integer n); means = (integer n, (refl, refl)); same = refl }
  content_means names table p q (character b) f s = record { datum = item p (character b); means = (character b, (refl, refl)); same = refl }
  content_means names table p q (symbol x) f s =
      record { datum = item p (symbol x); means = (symbol x, (symbol_is names x table s, refl)); same = refl }
  content_means names table p q (string bytes) f s = record { datum = item p (string bytes); means = (string bytes, (refl, refl)); same = refl }
  content_means names table p q (vector ds) f s =
      let all : AllMeant names (place_behind p (35 ∷ 40 ∷ [])) (trees_onto names no_tree [] ds) [] ds
      = onto_means names table (place_behind p (35 ∷ 40 ∷ [])) no_tree [] ds f s [] refl in
      record {
        datum = item p (vector (items_of all.data_behind));
        means = (all.data_behind, (all.means, refl));
        same = ap (λ i. item nowhere (vector i)) all.same;
      }
  content_means names table p q nil f s = record { datum = item p nil; means = (nil, (refl, refl)); same = refl }
  content_means names table p q (list ds t) f s =
      let all : AllMeant names (place_behind p (40 ∷ [])) (trees_onto names no_tree [] ds) [] ds
      = onto_means names table (place_behind p (40 ∷ [])) no_tree [] ds f.1 s.0 [] refl in
      list_means names table p q ds (trees_onto names no_tree [] ds) all.data_behind t all.means all.same f.0 f.2 s.1

  list_means : (names : List (List ℕ)) → IsTable names → (p q : Place) (ds : Items) (ts : Trees) (es : List Item) (t : Tail)
      → MeansAll (number_in names) (place_behind p (40 ∷ [])) ts es → items_unplaced (items_of es) ≡ items_unplaced ds
      → (ds ≡ no_item → ⊥) → FormedTail t → TailSpelled names t → Meant names p (list_tree names ts t) (item q (list ds t))
  list_means names table p q ds ts es no_tail all same some f s =
      record {
        datum = item p (list_content es);
        means = (es, (all, refl));
        same = ap (item nowhere) (some_list es ds same some);
      }
  list_means names table p q ds ts es (dotted (item r c)) all same some f s =
      let at : Place = place_behind (place_behind (place_behind (behind_all (place_behind p (40 ∷ [])) ts) space) (46 ∷ [])) space in
      let m : Meant names at (tree_of names (item r c)) (item r c) = content_means names table at r c f.1 s in
      record {
        datum = item p (joined es m.datum);
        means = (es, (m.datum, (all, m.means, refl)));
        same = ap (item nowhere) (dotted_same es ds m.datum r c m.same f.0 same);
      }

  onto_means : (names : List (List ℕ)) → IsTable names → (p : Place) (ts : Trees) (gap : List ℕ) (ds : Items) → AllFormed ds → AllSpelled names ds
      → (before : List Item) → MeansAll (number_in names) p ts before → AllMeant names p (trees_onto names ts gap ds) before ds
  onto_means names table p ts gap no_item f s before h =
      let P : List Item → Type 0 = λ es. MeansAll (number_in names) p ts es in
      record { data_behind = []; means = subst P (sym (append-nil before)) h; same = refl }
  onto_means names table p ts gap (item_and d ds) f s before h =
      let m : Meant names (place_behind (behind_all p ts) gap) (tree_of names d) d
      = tree_means names table (place_behind (behind_all p ts) gap) d f.0 s.0 in
      let rest : AllMeant names p (trees_onto names (then_tree ts gap (tree_of names d)) space ds) (before ++ m.datum ∷ []) ds
      = onto_means names table p (then_tree ts gap (tree_of names d)) space ds f.1 s.1 (before ++ m.datum ∷ []) (before, (m.datum, (h, m.means, refl))) in
      let P : List Item → Type 0 = λ es. MeansAll (number_in names) p (trees_onto names (then_tree ts gap (tree_of names d)) space ds) es in
      record {
        data_behind = m.datum ∷ rest.data_behind;
        means = subst P (append_assoc before (m.datum ∷ []) rest.data_behind) rest.means;
        same = ap (λ x. item_and x (items_unplaced (items_of rest.data_behind))) m.same ∙ ap (item_and (unplaced d)) rest.same;
      }
