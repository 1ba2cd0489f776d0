-- Groups of classes, one class after another: what was counted so far.
use Rattle.std.proofs.Common.{◌≡◌, ℕ, zero, suc, ◌+◌, ◌<◌, ◌≤◌, ◌==◌, Bool, true, false, ◌||◌, List, [], ◌∷◌, ◌++◌, length, Some, slice_get, if◌then◌else◌, get_or, drop, refl, ap, subst, sym, ◌∙◌, arith, add-one, append_assoc, append-nil, length-append}
use Rattle.std.specs.Str.{bytes_eq}
use Rattle.std.specs.List.{range_with_len, list_any}
use Rattle.std.proofs.lemmas.Bool.Decides.{nat_tests}
use Rattle.std.proofs.lemmas.Bool.{eqb-true}
use Rattle.std.proofs.lemmas.Slice.Eq.{bytes_eq-Decides}
use Rattle.std.proofs.lemmas.List.{drop_all}
use Rattle.std.proofs.lemmas.List.Sums.{sum_by-append, sum_by-cons}
use Rattle.std.proofs.lemmas.Option.{slice_get-get_or}
use Rattle.base.specs.model.DataRest.{rest_at}
use Rattle.lang_meaning.specs.declared.program.ClassRow.{ClassRow}
use Rattle.lang_meaning.specs.Lookup.{is_in}
use Rattle.lang_meaning.specs.Classes.{precedence}
use Rattle.lang_meaning.specs.Cells.{group_of, one_of_each}
use Rattle.lang_dispatch.specs.OfClasses.{with_classes}
use Rattle.front_cells.specs.Copies.{IsCopy}
use Rattle.front_cells.specs.Groups.{one_if, groups_to, below, AreCounted, AreRaised, IsRaised, IsGroupMore}
use Rattle.front_cells.specs.declared.groups.GroupCounts.{GroupCounts}

-- ---- classes that are raised

abbrev pub AreRaisedBut : (left classes counts counts' : List ℕ) → Type 0
AreRaisedBut left classes counts counts' =
    (class count' : ℕ) → slice_get counts' class ≡ Some count'
    → (count : ℕ) × ((slice_get counts class ≡ Some count) × (count + one_if (is_in class classes) ≤ count' + one_if (is_in class left)))

pub number_at : (xs ys : List ℕ) (i : ℕ) → xs ≡ ys → i < length xs → slice_get ys i ≡ Some (get_or xs i 0)
number_at xs ys i e h = rw (← e) (slice_get-get_or xs i 0 h)

pub none_raised : (classes counts : List ℕ) → AreRaisedBut classes classes counts counts
none_raised classes counts class count' e = (count', (e, omega arith))

pub all_raised : (classes : List ℕ) (i : ℕ) (counts counts' : List ℕ) → length classes ≤ i → AreRaisedBut (drop i classes) classes counts counts' → AreRaised classes counts counts'
all_raised classes i counts counts' past h class count' e =
    let from = h class count' e in
    (from.0, (from.1.0, omega (arith, from.1.1, ap (λ left. one_if (is_in class left)) (drop_all i classes past))))

-- one where one of two holds
either_few : (a b : Bool) → one_if (a || b) ≤ one_if a + one_if b
either_few true b = omega arith
either_few false b = omega arith

pub one_raised : (classes : List ℕ) (i x : ℕ) (counts counts' counts'' : List ℕ) → slice_get classes i ≡ Some x → IsRaised x counts' counts''
    → AreRaisedBut (drop i classes) classes counts counts' → AreRaisedBut (drop (i + 1) classes) classes counts counts''
one_raised classes i x counts counts' counts'' there raised h class count'' e =
    let middle = raised class count'' e in
    let from = h class middle.0 middle.1.0 in (
      from.0,
      (
        from.1.0,
        omega (
          arith,
          middle.1.1,
          from.1.1,
          ap (λ left. one_if (is_in class left)) (rest_at classes i x there),
          either_few (class == x) (is_in class (drop (i + 1) classes)),
        ),
      ),
    )

-- ---- one class for each group, with a class more

range_more : (a n last : ℕ) → last ≡ a + n → range_with_len a (suc n) ≡ range_with_len a n ++ last ∷ []
range_more a zero last e = ap (λ k. k ∷ []) (omega arith)
range_more a (suc n) last e = ap (λ ks. a ∷ ks) (range_more (a + 1) n last (omega arith))

range_longer : (group : ℕ → List ℕ) (class : ℕ) → one_of_each group [] (range_with_len 0 (class + 1)) ≡ one_of_each group [] (range_with_len 0 class ++ class ∷ [])
range_longer group class =
    ap (λ n. one_of_each group [] (range_with_len 0 n)) (add-one class) ∙ ap (one_of_each group []) (range_more 0 class class (omega arith))

-- whether a class is new, behind some that were seen
abbrev was_seen : (ℕ → List ℕ) → List ℕ → ℕ → Bool
was_seen group seen c = list_any (λ d. bytes_eq (group c) (group d)) seen

abbrev seen_behind : List ℕ → List ℕ → List ℕ
seen_behind seen [] = seen
seen_behind seen (c ∷ cs) = seen_behind (c ∷ seen) cs

pub one_class_more : (group : ℕ → List ℕ) (seen cs : List ℕ) (x : ℕ) →
    one_of_each group seen (cs ++ x ∷ []) ≡ one_of_each group seen cs ++ (if was_seen group (seen_behind seen cs) x then [] else x ∷ [])
one_class_more group seen [] x = append-nil (if was_seen group seen x then [] else x ∷ [])
one_class_more group seen (c ∷ cs) x =
    let front : List ℕ = if was_seen group seen c then [] else c ∷ [] in
    ap (λ ys. front ++ ys) (one_class_more group (c ∷ seen) cs x)
    ∙ sym (append_assoc front (one_of_each group (c ∷ seen) cs) (if was_seen group (seen_behind (c ∷ seen) cs) x then [] else x ∷ []))

-- what is in one of them is in what was seen
or_there : (a b : Bool) → b ≡ true → (a || b) ≡ true
or_there true b h = refl
or_there false b h = h

seen_stays : (p : ℕ → Bool) (seen cs : List ℕ) → list_any p seen ≡ true → list_any p (seen_behind seen cs) ≡ true
seen_stays p seen [] h = h
seen_stays p seen (c ∷ cs) h = seen_stays p (c ∷ seen) cs (or_there (p c) (list_any p seen) h)

either : (a b : Bool) → (a || b) ≡ true → b ≡ false → a ≡ true
either true b h k = refl
either false b h k = absurd (cc (h, k))

range_seen : (p : ℕ → Bool) (seen : List ℕ) (a n e : ℕ) → a ≤ e → e < a + n → p e ≡ true → list_any p (seen_behind seen (range_with_len a n)) ≡ true
range_seen p seen a zero e low high h = absurd (omega arith)
range_seen p seen a (suc n) e low high h = elim (a == e) as (λ b. (a == e) ≡ b → list_any p (seen_behind (a ∷ seen) (range_with_len (a + 1) n)) ≡ true) [
  | true ↦ λ k.
      let same : a ≡ e = eqb-true a e k in
      let here : p a ≡ true = ap p same ∙ h in
      seen_stays p (a ∷ seen) (range_with_len (a + 1) n) (ap (λ b. b || list_any p seen) here)
  | false ↦ λ k.
      let other : a + 1 ≤ e = grind (arith, nat_tests) in
      range_seen p (a ∷ seen) (a + 1) n e other (omega arith) h
] refl

same_bytes : (a b : List ℕ) → a ≡ b → bytes_eq a b ≡ true
same_bytes a b h = (bytes_eq-Decides a b).1 h

-- a class of the group of an earlier one makes no group
pub copy_more : (rows : List ClassRow) (column : List ℕ) (class : ℕ) → IsCopy rows column class → groups_to rows column (class + 1) ≡ groups_to rows column class
copy_more rows column class copy =
    let group : ℕ → List ℕ = group_of (with_classes rows) column in
    let cs : List ℕ = range_with_len 0 class in
    let longer : groups_to rows column (class + 1) ≡ one_of_each group [] (cs ++ class ∷ []) = range_longer group class in
    let seen : was_seen group (seen_behind [] cs) class ≡ true =
    range_seen (λ d. bytes_eq (group class) (group d)) [] 0 class copy.0 (omega arith) (omega (arith, copy.1.0)) (same_bytes (group class) (group copy.0) copy.1.1) in
    longer
    ∙ (one_class_more group [] cs class
    ∙ (ap (λ b. one_of_each group [] cs ++ (if b then [] else class ∷ [])) seen
    ∙ append-nil (one_of_each group [] cs)))

-- ---- what was counted

pub none_counted : (rows : List ClassRow) (column : List ℕ) (zeros : List ℕ) → AreCounted rows (groups_to rows column 0) (record { groups = 0; below = zeros })
unfolding below
none_counted rows column zeros = record { groups = omega arith; below = λ class count h. omega arith }

-- a class that is no copy makes one group at most
few_more : (b : Bool) (x : ℕ) (xs : List ℕ) → length (xs ++ (if b then [] else x ∷ [])) ≤ length xs + 1
few_more true x xs = omega (arith, length-append xs [])
few_more false x xs = omega (arith, length-append xs (x ∷ []))

few_below : (rows : List ClassRow) (class : ℕ) (b : Bool) (x : ℕ) (xs : List ℕ) →
    below rows class (xs ++ (if b then [] else x ∷ [])) ≤ below rows class xs + one_if (is_in class (precedence (with_classes rows) x))
unfolding below
few_below rows class true x xs = omega (arith, sum_by-append (λ c. one_if (is_in class (precedence (with_classes rows) c))) xs [])
few_below rows class false x xs =
    let f : ℕ → ℕ = λ c. one_if (is_in class (precedence (with_classes rows) c)) in
    omega (arith, sum_by-append f xs (x ∷ []), sum_by-cons f x [])

pub class_more : (rows : List ClassRow) (column : List ℕ) (class : ℕ) (counts counts' : GroupCounts) →
    IsGroupMore (precedence (with_classes rows) class) counts counts' → AreCounted rows (groups_to rows column class) counts → AreCounted rows (groups_to rows column (class + 1)) counts'
class_more rows column class counts counts' more h =
    let group : ℕ → List ℕ = group_of (with_classes rows) column in
    let cs : List ℕ = range_with_len 0 class in
    let b : Bool = was_seen group (seen_behind [] cs) class in
    let longer : groups_to rows column (class + 1) ≡ groups_to rows column class ++ (if b then [] else class ∷ []) =
    range_longer group class ∙ one_class_more group [] cs class in
    record {
      groups = omega (arith, ap length longer, few_more b class (groups_to rows column class), h.groups, more.groups);
      below = λ k count' e.
          let from = more.below k count' e in
          omega (arith, ap (below rows k) longer, few_below rows k b class (groups_to rows column class), h.below k from.0 from.1.0, from.1.1);
    }

pub copy_counted : (rows : List ClassRow) (column : List ℕ) (class : ℕ) (counts : GroupCounts) → IsCopy rows column class →
    AreCounted rows (groups_to rows column class) counts → AreCounted rows (groups_to rows column (class + 1)) counts
copy_counted rows column class counts copy h = subst (λ (cs : List ℕ). AreCounted rows cs counts) (sym (copy_more rows column class copy)) h
