-- Texts that are laid out by hand: words, numbers, characters and lists, with blanks between them. Where a test of what is laid out
-- passes, the grammar reads it.
use Prim.Native.String.{String}
use Rattle.std.proofs.Common.{◌≡◌, ℕ, suc, Bool, true, not, ◌&&◌, nat_lt, nat_le, List, [], ◌∷◌, ◌++◌, Option, Some, None, is_some, map, length, replicate, codes, refl, ap, ◌∙◌, append_assoc, leb-true, ltb-true}
use Rattle.std.specs.List.{list_all}
use Rattle.std.proofs.lemmas.Bool.{and_parts, not-true}
use Rattle.base.specs.declared.place.Place.{Place}
use Rattle.base.specs.Data.{Item, item, Content, integer, character, nil}
use Rattle.front_reader.specs.Characters.{begins, is_blank, is_token, folded, place_behind}
use Rattle.front_reader.specs.Gaps.{Gap, no_gap, blank}
use Rattle.front_reader.specs.Tokens.{IsToken, is_integer, integer_value, is_wide, is_float, is_dot}
use Rattle.front_reader.specs.Atoms.{an_integer, a_character, a_symbol, Spells, decimal, token, lettered}
use Rattle.front_reader.specs.Trees.{Tree, atom, proper, Trees, no_tree, then_tree, spelled, spelled_all, behind_all, Stands, StandsAll}
use Rattle.front_reader.specs.Meanings.{atom_content, list_content, number_in, Means, MeansAll}
use Rattle.front_reader.specs.Reads.{ReadsNext}

mutual
  pub data Sketch : Type 0 where
    word : List ℕ → Sketch
    number : List ℕ → Sketch
    letter : ℕ → Sketch
    group : Sketches → Sketch

  -- sketches in order, with blanks in front of each
  pub data Sketches : Type 0 where
    nothing : Sketches
    then : Sketches → List ℕ → Sketch → Sketches

-- a word of that text
abbrev pub w : String → Sketch
w t = word (codes t)

-- a list's first draft, one more behind a blank, and one more on a new line, behind so many blanks
abbrev pub begin : Sketch → Sketches
begin d = then nothing [] d

infixl 60 ◌&◌
abbrev pub ◌&◌ : Sketches → Sketch → Sketches
◌&◌ ds d = then ds (32 ∷ []) d

abbrev pub lined : ℕ → Sketches → Sketch → Sketches
lined n ds d = then ds (10 ∷ replicate n 32) d

-- the trees of the grammar
abbrev mutual
  pub tree_of : Sketch → Tree
  tree_of (word w) = atom w (a_symbol (map folded w))
  tree_of (number w) = atom w (an_integer (integer_value 10 w))
  tree_of (letter b) = atom (35 ∷ 92 ∷ b ∷ []) (a_character b)
  tree_of (group ds) = proper (trees_of ds) []

  pub trees_of : Sketches → Trees
  trees_of nothing = no_tree
  trees_of (then ds g d) = then_tree (trees_of ds) g (tree_of d)

-- the test

abbrev pub blank_all : List ℕ → Bool
blank_all g = list_all is_blank g

abbrev pub token_test : List ℕ → List ℕ → Bool
token_test w after = begins is_token w && (list_all is_token w && not (begins is_token after))

abbrev pub word_test : List ℕ → Bool
word_test w = not (is_integer 10 w) && (not (is_float w) && (not (is_dot w) && nat_le (length w) 256))

abbrev mutual
  pub good : ℕ → Sketch → List ℕ → Bool
  good n (word w) after = token_test w after && word_test w
  good n (number w) after = token_test w after && (is_integer 10 w && not (is_wide 10 w))
  good n (letter b) after = token_test (b ∷ []) after
  good n (group ds) after = nat_lt n 256 && good_all (suc n) ds (41 ∷ after)

  pub good_all : ℕ → Sketches → List ℕ → Bool
  good_all n nothing after = true
  good_all n (then ds g d) after = good_all n ds (g ++ spelled (tree_of d) after) && (blank_all g && good n d after)

-- where it passes, the trees are spelled right

pub blanks : (g after : List ℕ) → blank_all g ≡ true → Gap g after
blanks [] after h = no_gap after
blanks (b ∷ g) after h =
    let both = and_parts (is_blank b) (blank_all g) h in
    blank b g after both.0 (blanks g after both.1)

is_token_by : (w after : List ℕ) → token_test w after ≡ true → IsToken w after
is_token_by w after h =
    let some = and_parts (begins is_token w) (list_all is_token w && not (begins is_token after)) h in
    let all = and_parts (list_all is_token w) (not (begins is_token after)) some.1 in
    record { some = some.0; all = all.0; ends = not-true (begins is_token after) all.1 }

spells_word : (w after : List ℕ) → token_test w after ≡ true → word_test w ≡ true → Spells w after (a_symbol (map folded w))
spells_word w after t h =
    let a = and_parts (not (is_integer 10 w)) (not (is_float w) && (not (is_dot w) && nat_le (length w) 256)) h in
    let b = and_parts (not (is_float w)) (not (is_dot w) && nat_le (length w) 256) a.1 in
    let c = and_parts (not (is_dot w)) (nat_le (length w) 256) b.1 in
    token w after (is_token_by w after t) (not-true (is_integer 10 w) a.0) (not-true (is_float w) b.0) (not-true (is_dot w) c.0)
    (leb-true (length w) 256 c.1)

mutual
  unfolding Stands StandsAll

  pub stands : (n : ℕ) (d : Sketch) (after : List ℕ) → good n d after ≡ true → Stands n (tree_of d) after
  stands n (word w) after h =
      let both = and_parts (token_test w after) (word_test w) h in spells_word w after both.0 both.1
  stands n (number w) after h =
      let t = and_parts (token_test w after) (is_integer 10 w && not (is_wide 10 w)) h in
      let i = and_parts (is_integer 10 w) (not (is_wide 10 w)) t.1 in
      decimal w after (is_token_by w after t.0) i.0 (not-true (is_wide 10 w) i.1)
  stands n (letter b) after h = lettered b after (is_token_by (b ∷ []) after h)
  stands n (group ds) after h =
      let both = and_parts (nat_lt n 256) (good_all (suc n) ds (41 ∷ after)) h in
      (ltb-true n 256 both.0, stands_all (suc n) ds (41 ∷ after) both.1, no_gap (41 ∷ after))

  pub stands_all : (n : ℕ) (ds : Sketches) (after : List ℕ) → good_all n ds after ≡ true → StandsAll n (trees_of ds) after
  stands_all n nothing after h = tt
  stands_all n (then ds g d) after h =
      let a = and_parts (good_all n ds (g ++ spelled (tree_of d) after)) (blank_all g && good n d after) h in
      let b = and_parts (blank_all g) (good n d after) a.1 in
      (stands_all n ds (g ++ spelled (tree_of d) after) a.0, blanks g (spelled (tree_of d) after) b.0, stands n d after b.1)

-- what sketches mean, where names have these numbers

abbrev pub content_or : Option Content → Content
content_or None = nil
content_or (Some c) = c

content_there : (o : Option Content) → is_some o ≡ true → o ≡ Some (content_or o)
content_there None h = absurd (cc)
content_there (Some c) h = refl

abbrev mutual
  pub datum_of : (List ℕ → Option ℕ) → Place → Sketch → Item
  datum_of numbers p (word w) = item p (content_or (atom_content numbers (a_symbol (map folded w))))
  datum_of numbers p (number w) = item p (integer (integer_value 10 w))
  datum_of numbers p (letter b) = item p (character b)
  datum_of numbers p (group ds) = item p (list_content (data_of numbers (place_behind p (40 ∷ [])) ds))

  pub data_of : (List ℕ → Option ℕ) → Place → Sketches → List Item
  data_of numbers p nothing = []
  data_of numbers p (then ds g d) =
      data_of numbers p ds ++ datum_of numbers (place_behind (behind_all p (trees_of ds)) g) d ∷ []

abbrev mutual
  pub known : (List ℕ → Option ℕ) → Sketch → Bool
  known numbers (word w) = is_some (atom_content numbers (a_symbol (map folded w)))
  known numbers (number w) = true
  known numbers (letter b) = true
  known numbers (group ds) = known_all numbers ds

  pub known_all : (List ℕ → Option ℕ) → Sketches → Bool
  known_all numbers nothing = true
  known_all numbers (then ds g d) = known_all numbers ds && known numbers d

mutual
  unfolding Means MeansAll

  pub means : (numbers : List ℕ → Option ℕ) (p : Place) (d : Sketch) → known numbers d ≡ true → Means numbers p (tree_of d) (datum_of numbers p d)
  means numbers p (word w) h =
      let o : Option Content = atom_content numbers (a_symbol (map folded w)) in
      (content_or o, (content_there o h, refl))
  means numbers p (number w) h = (integer (integer_value 10 w), (refl, refl))
  means numbers p (letter b) h = (character b, (refl, refl))
  means numbers p (group ds) h = (data_of numbers (place_behind p (40 ∷ [])) ds, (means_all numbers (place_behind p (40 ∷ [])) ds h, refl))

  pub means_all : (numbers : List ℕ → Option ℕ) (p : Place) (ds : Sketches) → known_all numbers ds ≡ true → MeansAll numbers p (trees_of ds) (data_of numbers p ds)
  means_all numbers p nothing h = refl
  means_all numbers p (then ds g d) h =
      let both = and_parts (known_all numbers ds) (known numbers d) h in
      let q : Place = place_behind (behind_all p (trees_of ds)) g in
      (data_of numbers p ds, (datum_of numbers q d, (means_all numbers p ds both.0, means numbers q d both.1, refl)))

-- bytes and what follows them
mutual
  unfolding spelled spelled_all

  pub followed : (d : Sketch) (rest after : List ℕ) → spelled (tree_of d) rest ++ after ≡ spelled (tree_of d) (rest ++ after)
  followed (word w) rest after = append_assoc w rest after
  followed (number w) rest after = append_assoc w rest after
  followed (letter b) rest after = refl
  followed (group ds) rest after = ap (λ bs. 40 ∷ bs) (followed_all ds (41 ∷ rest) after)

  pub followed_all : (ds : Sketches) (rest after : List ℕ) → spelled_all (trees_of ds) rest ++ after ≡ spelled_all (trees_of ds) (rest ++ after)
  followed_all nothing rest after = refl
  followed_all (then ds g d) rest after =
      followed_all ds (g ++ spelled (tree_of d) rest) after
      ∙ ap (λ bs. spelled_all (trees_of ds) bs) (append_assoc g (spelled (tree_of d) rest) after ∙ ap (λ bs. g ++ bs) (followed d rest after))

abbrev pub bytes_of : Sketch → List ℕ
bytes_of d = spelled (tree_of d) []

-- the next datum of a text, behind blanks
abbrev pub next : (names : List (List ℕ)) (p : Place) (g : List ℕ) (d : Sketch) (after : List ℕ) → blank_all g ≡ true → good 0 d after ≡ true
    → known (number_in names) d ≡ true → ReadsNext names (g ++ (bytes_of d ++ after)) p (datum_of (number_in names) (place_behind p g) d) after
next names p g d after gap right there = record {
  gap = g;
  bytes = bytes_of d;
  front = refl;
  is_gap = blanks g (bytes_of d ++ after) gap;
  reads = record {
    tree = tree_of d;
    spells = followed d [] after;
    stands = stands 0 d after right;
    means = means (number_in names) (place_behind p g) d there;
  };
}
