-- The cells of tuples are counted argument by argument.
use Rattle.std.proofs.Common.{◌≡◌, ◌∙◌, ℕ, zero, suc, ◌+◌, Bool, true, false, ◌&&◌, List, [], ◌∷◌, ◌++◌, Some, length, nat_le, map, filter, drop, slice_get, refl, sym, ap, arith, ◌≤◌, ◌<◌, ◌-◌, get_or, take}
use Rattle.std.specs.List.{sum_by}
use Rattle.std.proofs.lemmas.Bool.Decides.{nat_tests}
use Rattle.std.proofs.lemmas.List.{take_rest}
use Rattle.std.proofs.lemmas.List.Folds.{fold-map}
use Rattle.std.proofs.lemmas.List.Sums.{sum_by-append}
use Rattle.lang_meaning.specs.declared.program.ProgramRows.{ProgramRows}
use Rattle.lang_meaning.specs.declared.program.GenericRow.{GenericRow}
use Rattle.lang_meaning.specs.declared.program.MethodRow.{MethodRow}
use Rattle.lang_meaning.specs.declared.program.Qualifier.TheVariants.{Primary}
use Rattle.lang_meaning.specs.Classes.{applies, of_kind}
use Rattle.lang_meaning.specs.Cells.{tuples, tuple_cells}
use Rattle.base.specs.model.DataRest.{rest_at}
use Rattle.lang_dispatch.specs.Suffixes.{is_below_some, passes, applies_from, chain_size, rest_cells}
use Rattle.lang_dispatch.proofs.TuplePlaces.{fan}
use Rattle.lang_dispatch.proofs.ChainCounts.{chain_length_is, length_of-chain, size_of}
use Rattle.base.specs.bridge.Counted.{sum_alike}

-- the size of a chain, counted
pub chain_size_is : (ms : List MethodRow) → chain_size ms ≡ size_of ms
chain_size_is ms = length_of-chain ms (of_kind Primary ms) refl

pub chain_size_of : (p : MethodRow → Bool) (ms : List MethodRow) → chain_size (filter p ms) ≡ size_of (filter p ms)
chain_size_of p ms = chain_size_is (filter p ms)

-- at the first argument nothing is in front
pub tuple_by_rest : (program : ProgramRows) (g : GenericRow) (cs : List ℕ)
    → tuple_cells program g cs ≡ rest_cells program 0 g.methods cs
tuple_by_rest program g cs =
    ap (λ n. 1 + n) (chain_length_is program g cs ∙ sym (chain_size_is (filter (λ m. applies program cs m.classes) g.methods)))

pub tuples_by_rest : (program : ProgramRows) (g : GenericRow) (ts : List (List ℕ))
    → sum_by (tuple_cells program g) ts ≡ sum_by (rest_cells program 0 g.methods) ts
tuples_by_rest program g ts = sum_alike (tuple_cells program g) (rest_cells program 0 g.methods) (tuple_by_rest program g) ts

-- what applies to a class and the rest passes the class, and applies to the rest from the next argument on
pub applies_next : (program : ProgramRows) (c : ℕ) (cs ds : List ℕ) (argument : ℕ)
    → applies program (c ∷ cs) (drop argument ds) ≡ (is_below_some program c (slice_get ds argument) && applies program cs (drop (argument + 1) ds))
applies_next program c cs [] zero = refl
applies_next program c cs [] (suc argument) = refl
applies_next program c cs (d ∷ ds) zero = refl
applies_next program c cs (d ∷ ds) (suc argument) =
    applies_next program c cs ds argument
    ∙ ap (λ n. is_below_some program c (slice_get ds argument) && applies program cs (drop n (d ∷ ds))) (let e : suc (argument + 1) ≡ suc argument + 1 = omega arith in e)

-- those of a list that pass two tests, one after the other
filter_both : (p q r : MethodRow → Bool) → ((m : MethodRow) → r m ≡ (p m && q m)) → (ms : List MethodRow) → filter r ms ≡ filter q (filter p ms)
filter_both p q r h [] = refl
filter_both p q r h (m ∷ ms) = by (p m) (q m) (r m) refl refl refl (filter_both p q r h ms) (h m)
  where
    by : (a b c : Bool) → p m ≡ a → q m ≡ b → r m ≡ c → filter r ms ≡ filter q (filter p ms) → r m ≡ (p m && q m)
        → filter r (m ∷ ms) ≡ filter q (filter p (m ∷ ms))
    by true true true e f g rest both = rw (e, g) (rw f (ap (λ l. m ∷ l) rest))
    by true true false e f g rest both = let so : r m ≡ true = rw (e, f) at both in absurd (cc)
    by true false true e f g rest both = let so : r m ≡ false = rw (e, f) at both in absurd (cc)
    by true false false e f g rest both = rw (e, g) (rw f rest)
    by false b true e f g rest both = let so : r m ≡ false = rw e at both in absurd (cc)
    by false b false e f g rest both = rw (e, g) rest

pub rest_next : (program : ProgramRows) (argument c : ℕ) (ms : List MethodRow) (cs : List ℕ)
    → rest_cells program argument ms (c ∷ cs) ≡ rest_cells program (argument + 1) (filter (passes program argument c) ms) cs
rest_next program argument c ms cs =
    ap (λ l. 1 + chain_size l)
    (filter_both (passes program argument c) (applies_from program (argument + 1) cs) (applies_from program argument (c ∷ cs))
    (λ m. applies_next program c cs m.classes argument) ms)

-- the sum over an image
sum_by-front : (f : List ℕ → ℕ) (c : ℕ) (ts : List (List ℕ)) → sum_by f (map (λ t. c ∷ t) ts) ≡ sum_by (λ t. f (c ∷ t)) ts
sum_by-front f c ts = fold-map (λ (n : ℕ) (t : List ℕ). n + f t) (λ (t : List ℕ). c ∷ t) 0 ts

-- the tuples that begin with one class, and then those of the classes behind it
pub fan_turn : (program : ProgramRows) (argument : ℕ) (ms : List MethodRow) (cs : List ℕ) (ts : List (List ℕ)) (i c : ℕ) → slice_get cs i ≡ Some c
    → sum_by (rest_cells program argument ms) (fan (drop i cs) ts)
    ≡ sum_by (rest_cells program (argument + 1) (filter (passes program argument c) ms)) ts + sum_by (rest_cells program argument ms) (fan (drop (i + 1) cs) ts)
fan_turn program argument ms cs ts i c h =
    let f = rest_cells program argument ms in
    let rest : List ℕ = drop (i + 1) cs in
    let same : sum_by (λ t. f (c ∷ t)) ts ≡ sum_by (rest_cells program (argument + 1) (filter (passes program argument c) ms)) ts =
    sum_alike (λ t. f (c ∷ t)) (rest_cells program (argument + 1) (filter (passes program argument c) ms)) (rest_next program argument c ms) ts in
    ap (λ l. sum_by f (fan l ts)) (rest_at cs i c h)
    ∙ sum_by-append f (map (λ t. c ∷ t) ts) (fan rest ts)
    ∙ ap (λ n. n + sum_by f (fan rest ts)) (sum_by-front f c ts ∙ same)

-- behind the last argument those apply that have no class left
none_left : (program : ProgramRows) (argument : ℕ) (ds : List ℕ) → applies program [] (drop argument ds) ≡ nat_le (length ds) argument
none_left program zero [] = refl
none_left program (suc argument) [] = let e : nat_le 0 (suc argument) ≡ true = grind (arith, nat_tests) in sym e
none_left program zero (d ∷ ds) =
    let e : nat_le (length (d ∷ ds)) 0 ≡ false = let many : 1 ≤ length (d ∷ ds) = omega arith in grind (arith, nat_tests) in
    sym e
none_left program (suc argument) (d ∷ ds) = none_left program argument ds ∙ same_tests (length ds) argument (length (d ∷ ds)) (let e : length (d ∷ ds) ≡ suc (length ds) = omega arith in e)
  where
    same_tests : (a b n : ℕ) → n ≡ suc a → nat_le a b ≡ nat_le n (suc b)
    same_tests a b n e = grind (arith, nat_tests)

filter_same : (p q : MethodRow → Bool) → ((m : MethodRow) → p m ≡ q m) → (ms : List MethodRow) → filter p ms ≡ filter q ms
filter_same p q h [] = refl
filter_same p q h (m ∷ ms) = rw (h m, filter_same p q h ms) refl

pub rest_ended : (program : ProgramRows) (argument : ℕ) (ms : List MethodRow)
    → rest_cells program argument ms [] ≡ 1 + chain_size (filter (λ m. nat_le (length m.classes) argument) ms)
rest_ended program argument ms =
    ap (λ l. 1 + chain_size l) (filter_same (applies_from program argument []) (λ m. nat_le (length m.classes) argument) (λ m. none_left program argument m.classes) ms)

-- no list, and a list in front of the others
pub no_lists : (f : List ℕ → ℕ) (lists : List (List ℕ)) → length lists < 1 → sum_by f (tuples lists) ≡ f []
no_lists f [] h = omega arith
no_lists f (cs ∷ lists) h = absurd (omega arith)

pub first_and_rest : (xs : List (List ℕ)) (x : List ℕ) → 1 ≤ length xs → x ≡ get_or xs 0 x → xs ≡ x ∷ take (length xs - 1) (drop 1 xs)
first_and_rest [] x h e = absurd (omega arith)
first_and_rest (y ∷ ys) x h e = rw (take_rest (y ∷ ys) 1) (ap (λ z. z ∷ ys) (sym e))

pub fan_of_first : (f : List ℕ → ℕ) (lists : List (List ℕ)) (cs : List ℕ) → 1 ≤ length lists → cs ≡ get_or lists 0 cs
    → sum_by f (tuples lists) ≡ sum_by f (fan cs (tuples (take (length lists - 1) (drop 1 lists))))
fan_of_first f lists cs h e = ap (λ l. sum_by f (tuples l)) (first_and_rest lists cs h e)
