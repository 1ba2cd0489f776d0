-- What was read with a table of names is read the same with a later one.
use Rattle.std.proofs.Common.{◌≡◌, ℕ, Bool, true, false, List as Seq, [], ◌∷◌, ◌++◌, Option, Some, None, refl, ap, ◌∙◌, if◌then◌else◌}
use Rattle.std.specs.Prelude.{codes}
use Rattle.std.specs.Str.{bytes_eq}
use Rattle.base.specs.declared.place.Place.{Place}
use Rattle.base.specs.Data.{Item, Content, nil}
use Rattle.base.specs.Names.{Extends}
use Rattle.front_reader.specs.Atoms.{Atom, an_integer, a_character, a_symbol, a_string}
use Rattle.front_reader.specs.Trees.{Tree, atom, proper, improper, row, prefixed, Trees, no_tree, then_tree, prefix_bytes, behind_all}
use Rattle.front_reader.specs.Characters.{place_behind}
use Rattle.front_reader.specs.Meanings.{one_later, number_in, named, atom_content, prefix_name, Means, MeansAll}
use Rattle.front_reader.specs.Reads.{ReadsNext}

number_if : (b : Bool) (o p : Option ℕ) (n : ℕ) → ((m : ℕ) → o ≡ Some m → p ≡ Some m)
    → (if b then Some 0 else one_later o) ≡ Some n → (if b then Some 0 else one_later p) ≡ Some n
number_if true o p n k h = h
number_if false None p n k h = absurd (cc)
number_if false (Some m) p n k h = ap one_later (k m refl) ∙ h

number_front : (xs ys : Seq (Seq ℕ)) (text : Seq ℕ) (n : ℕ) → number_in xs text ≡ Some n → number_in (xs ++ ys) text ≡ Some n
unfolding number_in
number_front [] ys text n h = absurd (cc)
number_front (t ∷ ts) ys text n h =
    number_if (bytes_eq text t) (number_in ts text) (number_in (ts ++ ys) text) n (λ m e. number_front ts ys text m e) h

pub number_later : (old new : Seq (Seq ℕ)) (text : Seq ℕ) (n : ℕ) → Extends old new → number_in old text ≡ Some n → number_in new text ≡ Some n
number_later old new text n x h = ap (λ ts. number_in ts text) x.begins ∙ number_front old x.added text n h

abbrev Numbers : Type 0
Numbers = Seq ℕ → Option ℕ

abbrev Keeps : Numbers → Numbers → Type 0
Keeps a b = (t : Seq ℕ) (n : ℕ) → a t ≡ Some n → b t ≡ Some n

named_later : (o p : Option ℕ) (c : Content) → ((n : ℕ) → o ≡ Some n → p ≡ Some n) → named o ≡ Some c → named p ≡ Some c
named_later None p c k h = absurd (cc)
named_later (Some n) p c k h = ap named (k n refl) ∙ h

symbol_later : (b : Bool) (o p : Option ℕ) (c : Content) → ((n : ℕ) → o ≡ Some n → p ≡ Some n)
    → (if b then Some nil else named o) ≡ Some c → (if b then Some nil else named p) ≡ Some c
symbol_later true o p c k h = h
symbol_later false o p c k h = named_later o p c k h

content_later : (a b : Numbers) → Keeps a b → (x : Atom) (c : Content) → atom_content a x ≡ Some c → atom_content b x ≡ Some c
content_later a b k (an_integer n) c h = h
content_later a b k (a_character n) c h = h
content_later a b k (a_symbol name) c h = symbol_later (bytes_eq name (codes "nil")) (a name) (b name) c (λ n e. k name n e) h
content_later a b k (a_string bytes) c h = h

mutual
  unfolding Means MeansAll

  pub means_later : (a b : Numbers) → Keeps a b → (p : Place) (t : Tree) (d : Item) → Means a p t d → Means b p t d
  means_later a b k p (atom bs x) d m = (m.0, (content_later a b k x m.0 m.1.0, m.1.1))
  means_later a b k p (proper ts g) d m = (m.0, (all_later a b k (place_behind p (40 ∷ [])) ts m.0 m.1.0, m.1.1))
  means_later a b k p (improper ts g h t i) d m = (
    m.0,
    (
      m.1.0,
      (
        all_later a b k (place_behind p (40 ∷ [])) ts m.0 m.1.1.0,
        means_later a b k (place_behind (place_behind (place_behind (behind_all (place_behind p (40 ∷ [])) ts) g) (46 ∷ [])) h) t m.1.0 m.1.1.1,
        m.1.1.2,
      ),
    ),
  )
  means_later a b k p (row ts g) d m = (m.0, (all_later a b k (place_behind p (35 ∷ 40 ∷ [])) ts m.0 m.1.0, m.1.1))
  means_later a b k p (prefixed x g t) d m = (
    m.0,
    (
      m.1.0,
      (
        k (prefix_name x) m.0 m.1.1.0,
        means_later a b k (place_behind (place_behind p (prefix_bytes x)) g) t m.1.0 m.1.1.1,
        m.1.1.2,
      ),
    ),
  )

  all_later : (a b : Numbers) → Keeps a b → (p : Place) (ts : Trees) (ds : Seq Item) → MeansAll a p ts ds → MeansAll b p ts ds
  all_later a b k p no_tree ds m = m
  all_later a b k p (then_tree ts g t) ds m = (
    m.0,
    (
      m.1.0,
      (
        all_later a b k p ts m.0 m.1.1.0,
        means_later a b k (place_behind (behind_all p ts) g) t m.1.0 m.1.1.1,
        m.1.1.2,
      ),
    ),
  )

-- the next datum
unfoldable pub next_later : (old new : Seq (Seq ℕ)) (text : Seq ℕ) (p : Place) (d : Item) (after : Seq ℕ) → Extends old new
    → ReadsNext old text p d after → ReadsNext new text p d after
next_later old new text p d after x r = record {
  gap = r.gap;
  bytes = r.bytes;
  front = r.front;
  is_gap = r.is_gap;
  reads = record {
    tree = r.reads.tree;
    spells = r.reads.spells;
    stands = r.reads.stands;
    means = means_later (number_in old) (number_in new) (λ t n e. number_later old new t n x e) (place_behind p r.gap) r.reads.tree d r.reads.means;
  };
}
