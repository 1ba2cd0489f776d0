-- Counting for each class those that have it in their precedence lists: what a loop has counted, with what is left.
use Rattle.std.proofs.Common.{◌≡◌, ℕ, ◌+◌, ◌==◌, ◌<◌, ◌≤◌, get_or, Bool, true, false, ◌||◌, List, Some, slice_get, length, drop, ap, sym, ◌∙◌, arith}
use Rattle.std.proofs.lemmas.List.{drop_all}
use Rattle.std.proofs.lemmas.Option.{slice_get-get_or}
use Rattle.base.specs.bridge.Counted.{sum_left, no_sum_left}
use Rattle.base.specs.model.DataRest.{rest_at}
use Rattle.lang_meaning.specs.declared.program.ClassRow.{ClassRow}
use Rattle.lang_meaning.specs.Lookup.{is_in}
use Rattle.front_scope.specs.Below.{one_if, below, AreBelow, AreRaised, IsRaised}

-- the numbers and those of the classes that are left are no fewer than of all
abbrev pub AreBelowBut : (left rows : List ClassRow) (counts : List ℕ) → Type 0
AreBelowBut left rows counts = (class count : ℕ) → slice_get counts class ≡ Some count → below rows class ≤ count + below left class

abbrev pub AreRaisedBut : (left classes counts counts' : List ℕ) → Type 0
AreRaisedBut left classes counts counts' =
    (class count' : ℕ) → slice_get counts' class ≡ Some count'
    → (count : ℕ) × ((slice_get counts class ≡ Some count) × (count + one_if (is_in class classes) ≤ count' + one_if (is_in class left)))

-- an item of a list that is another one
pub item_at : {X : Type 0} (xs ys : List X) (i : ℕ) (x : X) → xs ≡ ys → i < length xs → x ≡ get_or xs i x → slice_get ys i ≡ Some x
item_at xs ys i x e h k = rw (← e) (slice_get-get_or xs i x h ∙ ap Some (sym k))

pub number_at : (xs ys : List ℕ) (i : ℕ) → xs ≡ ys → i < length xs → slice_get ys i ≡ Some (get_or xs i 0)
number_at xs ys i e h = rw (← e) (slice_get-get_or xs i 0 h)

pub none_below : (rows : List ClassRow) (counts : List ℕ) → AreBelowBut rows rows counts
none_below rows counts class count h = omega arith

pub all_below : (rows : List ClassRow) (i : ℕ) (counts : List ℕ) → length rows ≤ i → AreBelowBut (drop i rows) rows counts → AreBelow rows counts
unfolding below
all_below rows i counts past h class count there =
    omega (arith, h class count there, no_sum_left (λ (row : ClassRow). one_if (is_in class row.precedence)) rows i past)

pub one_below : (rows : List ClassRow) (i : ℕ) (row : ClassRow) (counts counts' : List ℕ) → slice_get rows i ≡ Some row → AreRaised row.precedence counts counts'
    → AreBelowBut (drop i rows) rows counts → AreBelowBut (drop (i + 1) rows) rows counts'
unfolding below
one_below rows i row counts counts' there raised h class count' e =
    let from = raised class count' e in
    omega (arith, h class from.0 from.1.0, from.1.1, sum_left (λ (row : ClassRow). one_if (is_in class row.precedence)) rows i row there)

pub none_raised : (classes counts : List ℕ) → AreRaisedBut classes classes counts counts
none_raised classes counts class count' e = (count', (e, omega arith))

pub all_raised : (classes : List ℕ) (i : ℕ) (counts counts' : List ℕ) → length classes ≤ i → AreRaisedBut (drop i classes) classes counts counts' → AreRaised classes counts counts'
all_raised classes i counts counts' past h class count' e =
    let from = h class count' e in
    (from.0, (from.1.0, omega (arith, from.1.1, ap (λ left. one_if (is_in class left)) (drop_all i classes past))))

-- one where one of two holds
pub either_few : (a b : Bool) → one_if (a || b) ≤ one_if a + one_if b
either_few true b = omega arith
either_few false b = omega arith

pub one_raised : (classes : List ℕ) (i x : ℕ) (counts counts' counts'' : List ℕ) → slice_get classes i ≡ Some x → IsRaised x counts' counts''
    → AreRaisedBut (drop i classes) classes counts counts' → AreRaisedBut (drop (i + 1) classes) classes counts counts''
one_raised classes i x counts counts' counts'' there raised h class count'' e =
    let middle = raised class count'' e in
    let from = h class middle.0 middle.1.0 in (
      from.0,
      (
        from.1.0,
        omega (
          arith,
          middle.1.1,
          from.1.1,
          ap (λ left. one_if (is_in class left)) (rest_at classes i x there),
          either_few (class == x) (is_in class (drop (i + 1) classes)),
        ),
      ),
    )
