-- The bytes of a tree in front of a text, and the first datum that a front has.
use Rattle.std.proofs.Common.{◌≡◌, ℕ, List as Seq, [], ◌∷◌, ◌++◌, length, refl, sym, ap, subst, ◌∙◌, arith, append_assoc, length-append}
use Rattle.base.specs.declared.place.Place.{Place}
use Rattle.base.specs.Data.{Item}
use Rattle.front_reader.specs.declared.pending.Pending.{Pending}
use Rattle.front_reader.specs.Characters.{place_behind}
use Rattle.front_reader.specs.Gaps.{Gap}
use Rattle.front_reader.specs.Trees.{Tree, atom, proper, improper, row, prefixed, Trees, no_tree, then_tree, prefix_bytes, spelled, spelled_all, behind, behind_all, Stands, StandsAll}
use Rattle.front_reader.specs.Meanings.{number_in, Means, MeansAll}
use Rattle.front_reader.specs.Reads.{ReadsNext}
use Rattle.front_reader.specs.Fronts.{Level, in_list, at_dot, at_tail, in_vector, at_prefix, levels_spelled, levels_behind, StandsLevels}
use Rattle.front_reader.proofs.Stepping.{Numbers, place_behind-append}
use Rattle.front_reader.proofs.Fronting.{Held}
use Rattle.front_reader.proofs.Sounding.{Fronted}

-- more bytes behind a tree
mutual
  unfolding spelled spelled_all

  pub spelled-front : (t : Tree) (xs ys : Seq ℕ) → spelled t (xs ++ ys) ≡ spelled t xs ++ ys
  spelled-front (atom b a) xs ys = sym (append_assoc b xs ys)
  spelled-front (proper ts g) xs ys =
      ap (λ z. 40 ∷ z)
      (ap (spelled_all ts) (sym (append_assoc g (41 ∷ xs) ys)) ∙ all-front ts (g ++ 41 ∷ xs) ys)
  spelled-front (improper ts g h t i) xs ys =
      let inside = ap (spelled t) (sym (append_assoc i (41 ∷ xs) ys)) ∙ spelled-front t (i ++ 41 ∷ xs) ys in
      let behind_dot = ap (λ z. h ++ z) inside ∙ sym (append_assoc h (spelled t (i ++ 41 ∷ xs)) ys) in
      let behind_data = ap (λ z. g ++ 46 ∷ z) behind_dot ∙ sym (append_assoc g (46 ∷ (h ++ spelled t (i ++ 41 ∷ xs))) ys) in
      ap (λ z. 40 ∷ z)
      (ap (spelled_all ts) behind_data ∙ all-front ts (g ++ 46 ∷ (h ++ spelled t (i ++ 41 ∷ xs))) ys)
  spelled-front (row ts g) xs ys =
      ap (λ z. 35 ∷ 40 ∷ z)
      (ap (spelled_all ts) (sym (append_assoc g (41 ∷ xs) ys)) ∙ all-front ts (g ++ 41 ∷ xs) ys)
  spelled-front (prefixed x g t) xs ys =
      ap (λ z. prefix_bytes x ++ z)
      (ap (λ z. g ++ z) (spelled-front t xs ys) ∙ sym (append_assoc g (spelled t xs) ys))
      ∙ sym (append_assoc (prefix_bytes x) (g ++ spelled t xs) ys)

  all-front : (ts : Trees) (xs ys : Seq ℕ) → spelled_all ts (xs ++ ys) ≡ spelled_all ts xs ++ ys
  all-front no_tree xs ys = refl
  all-front (then_tree ts g t) xs ys =
      ap (spelled_all ts) (ap (λ z. g ++ z) (spelled-front t xs ys) ∙ sym (append_assoc g (spelled t xs) ys))
      ∙ all-front ts (g ++ spelled t xs) ys

-- the place behind the bytes of a tree
mutual
  unfolding spelled spelled_all behind behind_all

  pub behind-spelled : (t : Tree) (p : Place) (xs : Seq ℕ) → place_behind p (spelled t xs) ≡ place_behind (behind p t) xs
  behind-spelled (atom b a) p xs = place_behind-append p b xs
  behind-spelled (proper ts g) p xs =
      all-behind ts (place_behind p (40 ∷ [])) (g ++ 41 ∷ xs)
      ∙ place_behind-append (behind_all (place_behind p (40 ∷ [])) ts) g (41 ∷ xs)
  behind-spelled (improper ts g h t i) p xs =
      let data_end = behind_all (place_behind p (40 ∷ [])) ts in
      let dot_end = place_behind (place_behind data_end g) (46 ∷ []) in
      let last = place_behind dot_end h in
      all-behind ts (place_behind p (40 ∷ [])) (g ++ 46 ∷ (h ++ spelled t (i ++ 41 ∷ xs)))
      ∙ place_behind-append data_end g (46 ∷ (h ++ spelled t (i ++ 41 ∷ xs)))
      ∙ place_behind-append dot_end h (spelled t (i ++ 41 ∷ xs))
      ∙ behind-spelled t last (i ++ 41 ∷ xs)
      ∙ place_behind-append (behind last t) i (41 ∷ xs)
  behind-spelled (row ts g) p xs =
      all-behind ts (place_behind p (35 ∷ 40 ∷ [])) (g ++ 41 ∷ xs)
      ∙ place_behind-append (behind_all (place_behind p (35 ∷ 40 ∷ [])) ts) g (41 ∷ xs)
  behind-spelled (prefixed x g t) p xs =
      place_behind-append p (prefix_bytes x) (g ++ spelled t xs)
      ∙ place_behind-append (place_behind p (prefix_bytes x)) g (spelled t xs)
      ∙ behind-spelled t (place_behind (place_behind p (prefix_bytes x)) g) xs

  all-behind : (ts : Trees) (p : Place) (xs : Seq ℕ) → place_behind p (spelled_all ts xs) ≡ place_behind (behind_all p ts) xs
  all-behind no_tree p xs = refl
  all-behind (then_tree ts g t) p xs =
      all-behind ts p (g ++ spelled t xs)
      ∙ place_behind-append (behind_all p ts) g (spelled t xs)
      ∙ behind-spelled t (place_behind (behind_all p ts) g) xs

-- trees that mean no data are none
none-behind : (es : Seq Item) (e : Item) → [] ≡ es ++ e ∷ [] → ⊥
none-behind es e h = absurd (omega (arith, ap length h, length-append es (e ∷ [])))

means-none : (number : Numbers) (p : Place) (ts : Trees) → MeansAll number p ts [] → ts ≡ no_tree
unfolding MeansAll
means-none number p no_tree m = refl
means-none number p (then_tree ts g t) m = absurd (none-behind m.0 m.1.0 m.1.1.2)

held-first : (number : Numbers) (p : Place) (ts : Trees) (ls : Seq Level) (os : Seq Pending) → Held number p ts ls [] os → ts ≡ no_tree
held-first number p ts [] os h = means-none number p ts h.0
held-first number p ts (in_list g us ∷ ls) os h = held-first number p ts ls h.1.0 h.1.1.2
held-first number p ts (at_dot g us k ∷ ls) os h = held-first number p ts ls h.1.0 h.1.1.2
held-first number p ts (at_tail g us k i t ∷ ls) os h = held-first number p ts ls h.1.0 h.1.1.1.2
held-first number p ts (in_vector g us ∷ ls) os h = held-first number p ts ls h.1.0 h.1.1.2
held-first number p ts (at_prefix g x ∷ ls) os h = held-first number p ts ls h.1.0 h.1.1.2

-- where no datum is whole, the front has none before its levels
pub fronted-first : (number : Numbers) (text : Seq ℕ) (p : Place) (r : Seq ℕ) (q : Place) (os : Seq Pending)
    → (f : Fronted number text p r q [] os) → f.trees ≡ no_tree
fronted-first number text p r q os f = held-first number p f.trees f.levels os f.held

-- the last of one
last-one : (d : Item) (es : Seq Item) (e : Item) → d ∷ [] ≡ es ++ e ∷ [] → (es ≡ []) × (e ≡ d)
last-one d [] e h = let same : d ≡ e = cc in (refl, sym same)
last-one d (x ∷ xs) e h = let rest : [] ≡ xs ++ e ∷ [] = cc in absurd (none-behind xs e rest)

-- a text whose first datum is read
abbrev ReadsFirst : Seq (Seq ℕ) → Seq ℕ → Place → Item → Seq ℕ → Place → Type 0
ReadsFirst names text p d r q =
    ReadsNext names text p d r × ((consumed : Seq ℕ) × ((text ≡ consumed ++ r) × (q ≡ place_behind p consumed)))

one-read : (names : Seq (Seq ℕ)) (text r : Seq ℕ) (p q : Place) (d : Item) (g : Seq ℕ) (t : Tree)
    → text ≡ g ++ spelled t r → Gap g (spelled t r) → Stands 0 t r → q ≡ behind (place_behind p g) t
    → Means (number_in names) (place_behind p g) t d → ReadsFirst names text p d r q
one-read names text r p q d g t e k s at m =
    let front : spelled t r ≡ spelled t [] ++ r = spelled-front t [] r in
    let whole = e ∙ ap (λ z. g ++ z) front in (
      record {
        gap = g;
        bytes = spelled t [];
        front = whole;
        is_gap = subst (Gap g) front k;
        reads = record { tree = t; spells = sym front; stands = s; means = m };
      },
      (
        g ++ spelled t [],
        (
          whole ∙ sym (append_assoc g (spelled t []) r),
          at ∙ sym (behind-spelled t (place_behind p g) []) ∙ sym (place_behind-append p g (spelled t [])),
        ),
      ),
    )

tree-read : (names : Seq (Seq ℕ)) (text r : Seq ℕ) (p q : Place) (d : Item) (us : Trees) (g : Seq ℕ) (t : Tree) (e : Item)
    → us ≡ no_tree → e ≡ d → text ≡ spelled_all us (g ++ spelled t r) → Gap g (spelled t r) → Stands 0 t r
    → q ≡ behind (place_behind (behind_all p us) g) t → Means (number_in names) (place_behind (behind_all p us) g) t e
    → ReadsFirst names text p d r q
unfolding spelled_all behind_all
tree-read names text r p q d no_tree g t e none same h k s at m =
    one-read names text r p q d g t h k s at (subst (Means (number_in names) (place_behind p g) t) same m)
tree-read names text r p q d (then_tree us i u) g t e none same h k s at m = absurd (cc)

trees-read : (names : Seq (Seq ℕ)) (text r : Seq ℕ) (p q : Place) (d : Item) (ts : Trees)
    → text ≡ spelled_all ts r → StandsAll 0 ts r → q ≡ behind_all p ts → MeansAll (number_in names) p ts (d ∷ [])
    → ReadsFirst names text p d r q
unfolding spelled_all behind_all StandsAll MeansAll
trees-read names text r p q d no_tree e s at m = absurd (cc)
trees-read names text r p q d (then_tree us g t) e s at m =
    let one = last-one d m.0 m.1.0 m.1.1.2 in
    tree-read names text r p q d us g t m.1.0 (means-none (number_in names) p us (subst (MeansAll (number_in names) p us) one.0 m.1.1.0)) one.1 e s.1 s.2 at m.1.1.1

levels-read : (names : Seq (Seq ℕ)) (text r : Seq ℕ) (p q : Place) (d : Item) (ts : Trees) (ls : Seq Level)
    → text ≡ levels_spelled ts ls r → StandsLevels ts ls r → q ≡ levels_behind p ts ls
    → Held (number_in names) p ts ls (d ∷ []) [] → ReadsFirst names text p d r q
levels-read names text r p q d ts [] e s at h = trees-read names text r p q d ts e s at h.0
levels-read names text r p q d ts (in_list g us ∷ ls) e s at h = let k = h.1.1.0 in absurd (cc)
levels-read names text r p q d ts (at_dot g us j ∷ ls) e s at h = let k = h.1.1.0 in absurd (cc)
levels-read names text r p q d ts (at_tail g us j i t ∷ ls) e s at h = let k = h.1.1.1.0 in absurd (cc)
levels-read names text r p q d ts (in_vector g us ∷ ls) e s at h = let k = h.1.1.0 in absurd (cc)
levels-read names text r p q d ts (at_prefix g x ∷ ls) e s at h = let k = h.1.1.0 in absurd (cc)

-- where one datum is whole and none is open, the text begins with it
pub fronted-reads : (names : Seq (Seq ℕ)) (text r : Seq ℕ) (p q : Place) (d : Item) → Fronted (number_in names) text p r q (d ∷ []) []
    → ReadsNext names text p d r × ((consumed : Seq ℕ) × ((text ≡ consumed ++ r) × (q ≡ place_behind p consumed)))
fronted-reads names text r p q d f = levels-read names text r p q d f.trees f.levels f.spells f.stands f.place f.held
