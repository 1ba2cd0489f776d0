-- What is made one behind another.
use Rattle.std.proofs.Common.{◌≡◌, ℕ, zero, suc, ◌+◌, ◌≤◌, List, [], ◌∷◌, ◌++◌, length, take, Some, refl, ◌∙◌, ap, subst, append_assoc, append-nil, add-zero, length-append, arith}
use Rattle.std.specs.Prelude.{slice_get}
use Rattle.base.specs.Data.{Item}
use Rattle.lang_meaning.specs.declared.program.ProgramRows.{ProgramRows}
use Rattle.lang_meaning.specs.declared.program.SlotRow.{SlotRow}
use Rattle.lang_meaning.specs.Values.{Value}
use Rattle.lang_meaning.specs.Objects.{Object}
use Rattle.lang_meaning.specs.Literals.{lay}
use Rattle.mid_arena.specs.Places.{Places}
use Rattle.mid_arena.proofs.Keeping.{PlacesExtend}
use Rattle.mid_start.specs.declared.words.ArenaWords.{ArenaWords}
use Rattle.mid_start.specs.LaidWell.{LaidWell}
use Rattle.mid_start.specs.Laying.{Grown, LaidThere, Lays}
use Rattle.mid_start.proofs.Joining.{longer_same, longer_both, extends_longer}
use Rattle.lang_meaning.specs.Recipes.{Recipe, no_more, joined, in_turn, laid, initargs_recipe, initform_recipe}
use Rattle.mid_start.specs.Recipes.{SlotValues, name_recipe, slot_recipe}
use Rattle.mid_start.specs.Making.{IsWord, IsSlot, EachStandsFor, HaveWords, Made, Makes, IsWithin}
use Rattle.mid_start.proofs.Numbered.{data_no_functions, none_numbered}
use Rattle.mid_start.proofs.Reaching.{no_words, words_both, words_kept, lies_behind, datum_reached}

-- ---- what stays where more is laid

pub record Lasts {V W : Type 0} (means : Places → V → W → Type 0) : Type 0 where
  pub kept : (before after : Places) → PlacesExtend before after → (v : V) (w : W) → means before v w → means after v w

pub lasts_word : Lasts IsWord
lasts_word = record { kept = λ before after more v w e. more.word v w e }

pub lasts_slot : Lasts IsSlot
lasts_slot = record {
  kept = λ before after more v s h. record {
    name = more.word v.name s.name h.name;
    initargs = more.word v.initargs s.initargs h.initargs;
    initform = more.word v.initform s.initform h.initform;
  };
}

pub each_kept :
    {V W : Type 0} (means : Places → V → W → Type 0) → Lasts means → (before after : Places) → PlacesExtend before after → (vs : List V) (ws : List W)
    → EachStandsFor means before vs ws → EachStandsFor means after vs ws
each_kept means lasts before after more [] [] h = tt
each_kept means lasts before after more [] (w ∷ ws) h = h
each_kept means lasts before after more (v ∷ vs) [] h = h
each_kept means lasts before after more (v ∷ vs) (w ∷ ws) h = (lasts.kept before after more v w h.0, each_kept means lasts before after more vs ws h.1)

pub lasts_each : {V W : Type 0} (means : Places → V → W → Type 0) → Lasts means → Lasts (EachStandsFor means)
lasts_each means lasts = record { kept = λ before after more vs ws h. each_kept means lasts before after more vs ws h }

pub each_push :
    {V W : Type 0} (means : Places → V → W → Type 0) (places : Places) (vs : List V) (ws : List W) (v : V) (w : W)
    → EachStandsFor means places vs ws → means places v w → EachStandsFor means places (vs ++ v ∷ []) (ws ++ w ∷ [])
each_push means places [] [] v w h g = (g, tt)
each_push means places [] (u ∷ us) v w h g = absurd h
each_push means places (u ∷ us) [] v w h g = absurd h
each_push means places (u ∷ us) (x ∷ xs) v w h g = (h.0, each_push means places us xs v w h.1 g)

-- ---- recipes

-- the same recipe in other words
pub makes_as :
    {V W : Type 0} (names : List (List ℕ)) (means : Places → V → W → Type 0) (r s : Recipe V) (before after : ArenaWords) (w : W)
    → ((n : ℕ) → r n ≡ s n) → Makes names means r before after w → Makes names means s before after w
makes_as names means r s before after w same p = record {
  there = λ program places store h.
      subst (λ made. Made names program means places store before after made w) (same (length store)) (p.there program places store h);
}

-- nothing is laid
pub makes_none :
    {V W : Type 0} (names : List (List ℕ)) (means : Places → V → W → Type 0) (v : V) (w : W) (words : ArenaWords)
    → ((places : Places) → means places v w) → Makes names means (no_more v) words words w
makes_none names means v w words h = record {
  there = λ program places store stands. record {
    places_after = places;
    longer = longer_same places;
    stands = rw (append-nil store) stands;
    words = h places;
    numbered = λ numbered. rw (append-nil store) numbered;
    all = no_words places (length store);
  };
}

-- one behind another
pub makes_joined :
    {U V W X Y Z : Type 0} (names : List (List ℕ)) (one : Places → U → X → Type 0) (two : Places → V → Y → Type 0) (both : Places → W → Z → Type 0)
    (join : U → V → W) (r : Recipe U) (s : Recipe V) (before mid after : ArenaWords) (x : X) (y : Y) (z : Z)
    → Lasts one → ((places : Places) (u : U) (v : V) → one places u x → two places v y → both places (join u v) z)
    → Makes names one r before mid x → Makes names two s mid after y → Makes names both (joined join r s) before after z
makes_joined {U} {V} {W} {X} {Y} {Z} names one two both join r s before mid after x y z lasts join_means p q = record { there = there }
  where
    there :
        (program : ProgramRows) (places : Places) (store : List Object) → LaidWell names program places store before
        → Made names program both places store before after (joined join r s (length store)) z
    there program places store h =
        let a = r (length store) in
        let first : Made names program one places store before mid a x = p.there program places store h in
        let second : Made names program two first.places_after (store ++ a.0) mid after (s (length (store ++ a.0))) y =
        q.there program first.places_after (store ++ a.0) first.stands in
        let count : length (store ++ a.0) ≡ length store + length a.0 = length-append store a.0 in
        let next : Made names program two first.places_after (store ++ a.0) mid after (s (length store + length a.0)) y =
        subst (λ n. Made names program two first.places_after (store ++ a.0) mid after (s n) y) count second in
        record {
          places_after = next.places_after;
          longer = longer_both places first.places_after next.places_after first.longer next.longer;
          stands = rw (← append_assoc store a.0 (s (length store + length a.0)).0) next.stands;
          words = join_means next.places_after a.1 (s (length store + length a.0)).1
              (lasts.kept first.places_after next.places_after (extends_longer first.places_after next.places_after next.longer) a.1 x first.words) next.words;
          numbered = λ numbered. rw (← append_assoc store a.0 (s (length store + length a.0)).0) (next.numbered (first.numbered numbered));
          all =
              let one : HaveWords next.places_after (length store) (length a.0) =
              words_kept first.places_after next.places_after (extends_longer first.places_after next.places_after next.longer) (length store) (length a.0) first.all in
              let last = (s (length store + length a.0)).0 in
              rw (length-append a.0 last)
              (words_both next.places_after (length store) (length a.0) (length last) one (subst (λ n. HaveWords next.places_after n (length last)) count next.all));
        }

-- what a datum makes
pub makes_datum :
    (names : List (List ℕ)) (d : Item) (before after : ArenaWords) (w : ℕ) → Grown before after → Lays names (lay names d) before after w
    → Makes names IsWord (laid (lay names d)) before after w
makes_datum names d before after w grown p = record {
  there = λ program places store h.
      let l : LaidThere names program places store after (lay names d (length store)) w = p.there program places store h in
      let objects = (lay names d (length store)).objects in
      record {
        places_after = l.places_after;
        longer = l.longer;
        stands = l.stands;
        words = l.of_value;
        numbered = λ numbered.
            none_numbered names program places l.places_after store before after h l.longer grown numbered objects (data_no_functions names d (length store));
        all = datum_reached names program l.places_after (store ++ objects) after l.stands d (length store) w (lies_behind store objects) l.of_value;
      };
}

-- ---- lists

-- the last one of a list is made behind the others
pub turns_push :
    {X V : Type 0} (f : X → Recipe V) (xs : List X) (x : X) (n : ℕ)
    → joined (λ vs v. vs ++ v ∷ []) (in_turn f xs) (f x) n ≡ in_turn f (xs ++ x ∷ []) n
turns_push f [] x n = rw (add-zero n, append-nil (f x n).0) refl
turns_push {X} {V} f (y ∷ ys) x n =
    let first = f y n in
    let others = in_turn f ys (n + length first.0) in
    let count : n + length (first.0 ++ others.0) ≡ n + length first.0 + length others.0 = omega (arith, length-append first.0 others.0) in
    ap (λ k. let last = f x k in ((first.0 ++ others.0) ++ last.0, (first.1 ∷ others.1) ++ last.1 ∷ [])) count
    ∙ ap (λ os. (os, (first.1 ∷ others.1) ++ (f x (n + length first.0 + length others.0)).1 ∷ [])) (append_assoc first.0 others.0 (f x (n + length first.0 + length others.0)).0)
    ∙ ap (λ (made : List Object × List V). (first.0 ++ made.0, first.1 ∷ made.1)) (turns_push f ys x (n + length first.0))

pub taken_more : {X : Type 0} (xs : List X) (i : ℕ) (x : X) → slice_get xs i ≡ Some x → take (i + 1) xs ≡ take i xs ++ x ∷ []
taken_more [] i x h = absurd (cc)
taken_more (y ∷ ys) zero x h = let same : y ≡ x = cc in ap (λ z. z ∷ []) same
taken_more (y ∷ ys) (suc i) x h =
    let next : suc i + 1 ≡ suc (i + 1) = omega arith in
    rw next (ap (λ zs. y ∷ zs) (taken_more ys i x h))

-- a loop over a list: none, one more, and all
module _ {X V W : Type 0} (names : List (List ℕ)) (means : Places → V → W → Type 0) (f : X → Recipe V) where
  pub turns_none : (words : ArenaWords) → Makes names (EachStandsFor means) (in_turn f []) words words []
  turns_none words = makes_none names (EachStandsFor means) [] [] words (λ places. tt)

  pub turns_more :
      (xs : List X) (i : ℕ) (x : X) (before mid after : ArenaWords) (ws us : List W) (w : W) → Lasts means → slice_get xs i ≡ Some x → us ≡ ws ++ w ∷ []
      → Makes names (EachStandsFor means) (in_turn f (take i xs)) before mid ws → Makes names means (f x) mid after w
      → Makes names (EachStandsFor means) (in_turn f (take (i + 1) xs)) before after us
  turns_more xs i x before mid after ws us w lasts here pushed p q =
      let both : Makes names (EachStandsFor means) (joined (λ vs v. vs ++ v ∷ []) (in_turn f (take i xs)) (f x)) before after (ws ++ w ∷ []) =
      makes_joined names (EachStandsFor means) means (EachStandsFor means) (λ vs v. vs ++ v ∷ []) (in_turn f (take i xs)) (f x) before mid after ws w (ws ++ w ∷ [])
      (lasts_each means lasts) (λ places vs v h g. each_push means places vs ws v w h g) p q in
      rw (taken_more xs i x here, pushed)
      (makes_as names (EachStandsFor means) (joined (λ vs v. vs ++ v ∷ []) (in_turn f (take i xs)) (f x)) (in_turn f (take i xs ++ x ∷ [])) before after (ws ++ w ∷ []) (turns_push f (take i xs) x) both)

-- ---- how many words

pub within_same : (words : ArenaWords) (n : ℕ) → IsWithin words words n
within_same words n = record { first = refl; count = omega arith }

pub within_both : (a b c : ArenaWords) (m n k : ℕ) → m + n ≤ k → IsWithin a b m → IsWithin b c n → IsWithin a c k
within_both a b c m n k h p q = record { first = q.first ∙ p.first; count = omega (arith, p.count, q.count) }

-- ---- a slot

record AreTwo (places : Places) (v : Value × Value) (w : ℕ × ℕ) : Type 0 where
  first : IsWord places v.0 w.0
  second : IsWord places v.1 w.1

-- the name of a slot, which makes no object, the list of its initargs, and its initform's function
pub slot_made :
    (names : List (List ℕ)) (row : SlotRow) (a b c d : ArenaWords) (name initargs initform : ℕ)
    → Makes names IsWord (name_recipe names row.name) a b name → Makes names IsWord (initargs_recipe names row) b c initargs
    → Makes names IsWord (initform_recipe row.initform) c d initform
    → Makes names IsSlot (slot_recipe names row) a d (record { name = name; initargs = initargs; initform = initform })
slot_made names row a b c d name initargs initform p q r =
    makes_as names IsSlot (joined all (name_recipe names row.name) (joined (λ u v. (u, v)) (initargs_recipe names row) (initform_recipe row.initform))) (slot_recipe names row)
    a d (record { name = name; initargs = initargs; initform = initform })
    (λ n. let same : n + 0 ≡ n = add-zero n in rw same refl)
    (makes_joined names IsWord AreTwo IsSlot all (name_recipe names row.name) (joined (λ u v. (u, v)) (initargs_recipe names row) (initform_recipe row.initform))
    a b d name (initargs, initform) (record { name = name; initargs = initargs; initform = initform }) lasts_word
    (λ places u v h g. record { name = h; initargs = g.first; initform = g.second }) p
    (makes_joined names IsWord IsWord AreTwo (λ u v. (u, v)) (initargs_recipe names row) (initform_recipe row.initform) b c d initargs initform (initargs, initform) lasts_word
    (λ places u v h g. record { first = h; second = g }) q r))
  where
    all : Value → Value × Value → SlotValues
    all name others = record { name = name; initargs = others.0; initform = others.1 }
