-- A text is read as the renamed datum under a table that has the same texts in another order.
use Rattle.std.specs.Prelude.{◌≡◌, ℕ, zero, suc, ◌+◌, Bool, true, false, List, [], ◌∷◌, Option, Some, None, if◌then◌else◌, option_map, slice_get, codes, refl}
use Rattle.std.specs.Str.{bytes_eq}
use Rattle.std.proofs.Common.{arith, ap, sym, ◌∙◌}
use Rattle.std.proofs.lemmas.List.{map-append}
use Rattle.std.proofs.lemmas.Slice.Eq.{bytes_eq-Decides}
use Rattle.base.specs.declared.place.Place.{Place}
use Rattle.base.specs.Names.{IsTable}
use Rattle.base.specs.Data.{Item, item, integer, character, symbol, string, vector, nil, list, Items, item_and, no_tail, dotted}
use Rattle.front_profile.specs.GivenNames.{number_of}
use Rattle.front_reader.specs.Characters.{place_behind}
use Rattle.front_reader.specs.Atoms.{Atom, an_integer, a_character, a_symbol, a_string}
use Rattle.front_reader.specs.Trees.{Tree, atom, proper, improper, row, prefixed, Trees, no_tree, then_tree}
use Rattle.front_reader.specs.Meanings.{one_later, number_in, named, atom_content, prefix_name, list_content, in_front, joined, Means, MeansAll}
use Rattle.front_reader.specs.Reads.{ReadsNext}
use Rattle.lang_renamed.specs.Renaming.{item_by, content_by, items_by, tail_by}
use Rattle.front_laws.specs.Renaming.{Renames}
use Rattle.front_laws.proofs.RenamedTables.{data_by}
use Rattle.front_laws.proofs.RenamedData.{items_of_by}

-- ---- the number of a text, as the reader and as the profile look for it

text_in : (s : List ℕ) (ss : List (List ℕ)) (t : List ℕ) (b : Bool) → bytes_eq t s ≡ b → (o : Option ℕ) → ((m : ℕ) → o ≡ Some m → slice_get ss m ≡ Some t) → (n : ℕ) →
    (if b then Some 0 else one_later o) ≡ Some n → slice_get (s ∷ ss) n ≡ Some t
text_in s ss t true e o f zero h = ap (λ x. Some x) (sym ((bytes_eq-Decides t s).0 e))
text_in s ss t true e o f (suc n) h = absurd (cc)
text_in s ss t false e None f n h = absurd (cc)
text_in s ss t false e (Some m) f zero h = let k : suc m ≡ 0 = cc in absurd (omega (arith, k))
text_in s ss t false e (Some m) f (suc n) h = let k : suc m ≡ suc n = cc in let same : m ≡ n = omega (arith, k) in f n (ap (λ x. Some x) same)

pub number_text : (ts : List (List ℕ)) (t : List ℕ) (n : ℕ) → number_in ts t ≡ Some n → slice_get ts n ≡ Some t
unfolding number_in
number_text [] t n h = absurd (cc)
number_text (s ∷ ss) t n h = text_in s ss t (bytes_eq t s) refl (number_in ss t) (number_text ss t) n h

there_in : (s : List ℕ) (ss : List (List ℕ)) (t : List ℕ) (b : Bool) → bytes_eq t s ≡ b → (n : ℕ) → slice_get (s ∷ ss) n ≡ Some t →
    ((k : ℕ) → slice_get ss k ≡ Some t → (m : ℕ) × (number_in ss t ≡ Some m)) → (m : ℕ) × ((if b then Some 0 else one_later (number_in ss t)) ≡ Some m)
there_in s ss t true e n h f = (0, refl)
there_in s ss t false e zero h f = let same : t ≡ s = cc in let yes : bytes_eq t s ≡ true = (bytes_eq-Decides t s).1 same in absurd (cc)
there_in s ss t false e (suc n) h f = let x = f n h in (suc x.0, ap one_later x.1)

pub number_there : (ts : List (List ℕ)) (t : List ℕ) (n : ℕ) → slice_get ts n ≡ Some t → (m : ℕ) × (number_in ts t ≡ Some m)
unfolding number_in
number_there [] t n h = absurd (cc)
number_there (s ∷ ss) t n h = there_in s ss t (bytes_eq t s) refl n h (number_there ss t)

text_of_number : (s : List ℕ) (ss : List (List ℕ)) (t : List ℕ) (b : Bool) → bytes_eq s t ≡ b → (o : Option ℕ) → ((m : ℕ) → o ≡ Some m → slice_get ss m ≡ Some t) → (n : ℕ) →
    (if b then Some 0 else option_map (λ k. k + 1) o) ≡ Some n → slice_get (s ∷ ss) n ≡ Some t
text_of_number s ss t true e o f zero h = ap (λ x. Some x) ((bytes_eq-Decides s t).0 e)
text_of_number s ss t true e o f (suc n) h = absurd (cc)
text_of_number s ss t false e None f n h = absurd (cc)
text_of_number s ss t false e (Some m) f zero h = let k : m + 1 ≡ 0 = cc in absurd (omega (arith, k))
text_of_number s ss t false e (Some m) f (suc n) h = let k : m + 1 ≡ suc n = cc in let same : m ≡ n = omega (arith, k) in f n (ap (λ x. Some x) same)

number_of_text : (ts : List (List ℕ)) (t : List ℕ) (n : ℕ) → number_of ts t ≡ Some n → slice_get ts n ≡ Some t
number_of_text [] t n h = absurd (cc)
number_of_text (s ∷ ss) t n h = text_of_number s ss t (bytes_eq s t) refl (number_of ss t) (number_of_text ss t) n h

there_of : (s : List ℕ) (ss : List (List ℕ)) (t : List ℕ) (b : Bool) → bytes_eq s t ≡ b → (n : ℕ) → slice_get (s ∷ ss) n ≡ Some t →
    ((k : ℕ) → slice_get ss k ≡ Some t → (m : ℕ) × (number_of ss t ≡ Some m)) → (m : ℕ) × ((if b then Some 0 else option_map (λ k. k + 1) (number_of ss t)) ≡ Some m)
there_of s ss t true e n h f = (0, refl)
there_of s ss t false e zero h f = let same : s ≡ t = cc in let yes : bytes_eq s t ≡ true = (bytes_eq-Decides s t).1 same in absurd (cc)
there_of s ss t false e (suc n) h f = let x = f n h in (x.0 + 1, ap (option_map (λ k. k + 1)) x.1)

number_of_there : (ts : List (List ℕ)) (t : List ℕ) (n : ℕ) → slice_get ts n ≡ Some t → (m : ℕ) × (number_of ts t ≡ Some m)
number_of_there [] t n h = absurd (cc)
number_of_there (s ∷ ss) t n h = there_of s ss t (bytes_eq s t) refl n h (number_of_there ss t)

-- the names of texts are found under their new numbers
abbrev pub FindsNames : (ℕ → ℕ) → List (List ℕ) → List (List ℕ) → Type 0
FindsNames r old new = (t : List ℕ) → number_of new t ≡ option_map r (number_of old t)

module _ (r : ℕ → ℕ) (old new : List (List ℕ)) (w : Renames r old new) (table : IsTable new) where
  -- a search that finds what is there, and nothing else
  found_by : (find : List (List ℕ) → List ℕ → Option ℕ) → ((ts : List (List ℕ)) (t : List ℕ) (n : ℕ) → find ts t ≡ Some n → slice_get ts n ≡ Some t) →
      ((ts : List (List ℕ)) (t : List ℕ) (n : ℕ) → slice_get ts n ≡ Some t → (m : ℕ) × (find ts t ≡ Some m)) → (t : List ℕ) (o p : Option ℕ) → find old t ≡ o → find new t ≡ p →
      p ≡ option_map r o
  found_by find text there t None None e f = refl
  found_by find text there t None (Some m) e f =
      let n = w.back m t (text new t m f) in let x = there old t n.0 n.1 in absurd (let none : None ≡ Some x.0 = sym e ∙ x.1 in cc)
  found_by find text there t (Some n) None e f =
      let x = there new t (r n) (w.texts n ∙ text old t n e) in absurd (let none : None ≡ Some x.0 = sym f ∙ x.1 in cc)
  found_by find text there t (Some n) (Some m) e f =
      ap (λ k. Some k) (table.once m (r n) t (text new t m f) (w.texts n ∙ text old t n e))

  pub number_by : (t : List ℕ) → number_in new t ≡ option_map r (number_in old t)
  number_by t = found_by number_in number_text number_there t (number_in old t) (number_in new t) refl refl

  pub number_of_by : FindsNames r old new
  number_of_by t = found_by number_of number_of_text number_of_there t (number_of old t) (number_of new t) refl refl

  -- ---- data

  named_by : (o : Option ℕ) → named (option_map r o) ≡ option_map (content_by r) (named o)
  named_by None = refl
  named_by (Some n) = refl

  symbol_case : (b : Bool) (name : List ℕ) → (if b then Some nil else named (number_in new name)) ≡ option_map (content_by r) (if b then Some nil else named (number_in old name))
  symbol_case true name = refl
  symbol_case false name = ap named (number_by name) ∙ named_by (number_in old name)

  atom_by : (a : Atom) → atom_content (number_in new) a ≡ option_map (content_by r) (atom_content (number_in old) a)
  atom_by (an_integer n) = refl
  atom_by (a_character c) = refl
  atom_by (a_symbol name) = symbol_case (bytes_eq name (codes "nil")) name
  atom_by (a_string bytes) = refl

  list_by : (ds : List Item) → content_by r (list_content ds) ≡ list_content (data_by r ds)
  list_by [] = refl
  list_by (d ∷ ds) = ap (λ es. list es no_tail) (sym (items_of_by r (d ∷ ds)))

  front_by : (ds : List Item) (es : Items) → items_by r (in_front ds es) ≡ in_front (data_by r ds) (items_by r es)
  front_by [] es = refl
  front_by (d ∷ ds) es = ap (λ x. item_and (item_by r d) x) (front_by ds es)

  joined_by : (ds : List Item) (e : Item) → content_by r (joined ds e) ≡ joined (data_by r ds) (item_by r e)
  joined_by ds (item p (integer n)) = ap (λ es. list es (dotted (item p (integer n)))) (sym (items_of_by r ds))
  joined_by ds (item p (character c)) = ap (λ es. list es (dotted (item p (character c)))) (sym (items_of_by r ds))
  joined_by ds (item p (symbol s)) = ap (λ es. list es (dotted (item_by r (item p (symbol s))))) (sym (items_of_by r ds))
  joined_by ds (item p (string bytes)) = ap (λ es. list es (dotted (item p (string bytes)))) (sym (items_of_by r ds))
  joined_by ds (item p (vector es)) = ap (λ xs. list xs (dotted (item_by r (item p (vector es))))) (sym (items_of_by r ds))
  joined_by ds (item p nil) = ap (λ es. list es no_tail) (sym (items_of_by r ds))
  joined_by ds (item p (list es t)) = ap (λ xs. list xs (tail_by r t)) (front_by ds es)

  mutual
    unfolding Means MeansAll

    pub means_by : (p : Place) (t : Tree) (d : Item) → Means (number_in old) p t d → Means (number_in new) p t (item_by r d)
    means_by p (atom b a) d m = (content_by r m.0, (atom_by a ∙ ap (option_map (content_by r)) m.1.0, ap (item_by r) m.1.1))
    means_by p (proper ts g) d m = (data_by r m.0, (all_mean_by _ ts m.0 m.1.0, ap (item_by r) m.1.1 ∙ ap (item p) (list_by m.0)))
    means_by p (improper ts g h t i) d m =
        (data_by r m.0, (item_by r m.1.0, (all_mean_by _ ts m.0 m.1.1.0, means_by _ t m.1.0 m.1.1.1, ap (item_by r) m.1.1.2 ∙ ap (item p) (joined_by m.0 m.1.0))))
    means_by p (row ts g) d m = (data_by r m.0, (all_mean_by _ ts m.0 m.1.0, ap (item_by r) m.1.1 ∙ ap (λ es. item p (vector es)) (sym (items_of_by r m.0))))
    means_by p (prefixed x g t) d m =
        (r m.0, (item_by r m.1.0, (number_by (prefix_name x) ∙ ap (option_map r) m.1.1.0, means_by _ t m.1.0 m.1.1.1, ap (item_by r) m.1.1.2)))

    all_mean_by : (p : Place) (ts : Trees) (ds : List Item) → MeansAll (number_in old) p ts ds → MeansAll (number_in new) p ts (data_by r ds)
    all_mean_by p no_tree ds m = ap (data_by r) m
    all_mean_by p (then_tree ts g t) ds m =
        (data_by r m.0, (item_by r m.1.0, (all_mean_by p ts m.0 m.1.1.0, means_by _ t m.1.0 m.1.1.1, ap (data_by r) m.1.1.2 ∙ map-append (item_by r) m.0 (m.1.0 ∷ []))))

  -- the next datum of a text, at the same bytes
  abbrev pub next_by : (text : List ℕ) (p : Place) (d : Item) (after : List ℕ) → ReadsNext old text p d after → ReadsNext new text p (item_by r d) after
  next_by text p d after x = record {
    gap = x.gap;
    bytes = x.bytes;
    front = x.front;
    is_gap = x.is_gap;
    reads = record {
      tree = x.reads.tree;
      spells = x.reads.spells;
      stands = x.reads.stands;
      means = means_by (place_behind p x.gap) x.reads.tree d x.reads.means;
    };
  }
