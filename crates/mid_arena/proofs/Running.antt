-- Runs of code step by step: what each step comes to, so that the run of straight-line code is a chain of equations.
use Rattle.std.proofs.Common.{◌≡◌, ℕ, suc, ◌+◌, ◌-◌, ◌%◌, ◌^◌, ◌<◌, ◌≤◌, length, Bool, true, false, List, [], ◌∷◌, ◌++◌, Option, Some, refl, sym, ap, ◌∙◌, arith}
use Rattle.std.specs.Prelude.{ℤ, pos, negsuc, ◌+ℤ◌, slice_set}
use Rattle.std.proofs.lemmas.Int.{ints}
use Rattle.mid_code.specs.declared.operation.Arithmetic.{Arithmetic}
use Rattle.mid_code.specs.declared.operation.Counted.{Counted}
use Rattle.mid_code.specs.declared.operation.Counted.TheVariants.{Turn}
use Rattle.mid_code.specs.declared.operation.Operation.TheVariants.{Move, Constant, Compute, Load, Store, Request, Put, Get}
use Rattle.mid_code.specs.declared.operation.Test.{Test}
use Rattle.mid_code.specs.declared.program.MidProcedure.{MidProcedure}
use Rattle.base.specs.Arithmetic.{low_word}
use Rattle.mid_code.specs.Words.{computed, compares, address}
use Rattle.mid_code.specs.MidCode.{MidStep, perform, choose, repeat, return_word, MidCode, no_step, step_and, code_of}
use Rattle.mid_code.specs.Arena.{Block, activation_frame, left, is_lent, word_at, with_word, with_heap, with_new_block}
use Rattle.mid_code.specs.Costs.{operation_cost, test_cost, jump_cost, return_cost, entry_cost}
use Rattle.mid_code.specs.State.{Registers, first_registers, MidState, End, falls, returns, cuts, no_room, no_level, no_turn, halts, unhandled, exhausted}
use Rattle.mid_code.specs.State.{stuck, MidOutcome, Next, ends, charged, with_arena, gives, go_on, with_some, choose_by, register, jumped}
use Rattle.mid_code.specs.Meaning.{store, get_from, test, count, Task, enter, again, Context, context_of, leaves, exec, exec_step, turns}
use Rattle.mid_arena.specs.Places.{Spot, end_of}
use Rattle.mid_arena.specs.Standing.{SpotStands}
use Rattle.mid_arena.proofs.Memory.{lent_in_heap, in_spot_lent}
use Rattle.std.proofs.lemmas.Bool.{eq-eqb, le-leb, lt-leb}
use Rattle.mid_arena.proofs.WordFacts.{low_word_of_word}

-- an end that is not falling out
abbrev pub IsLast : End → Type 0
IsLast falls = ⊥
IsLast other = Unit {0}

-- combinators

pub go_on_last : (e : End) (rs : Registers) (z : MidState) (next : Next) → IsLast e → go_on (ends e rs z) next ≡ ends e rs z
unfolding go_on
go_on_last falls rs z next h = absurd h
go_on_last (returns w) rs z next h = refl
go_on_last (cuts n w) rs z next h = refl
go_on_last (no_room asked left) rs z next h = refl
go_on_last no_level rs z next h = refl
go_on_last no_turn rs z next h = refl
go_on_last (halts w) rs z next h = refl
go_on_last (unhandled class site condition) rs z next h = refl
go_on_last exhausted rs z next h = refl
go_on_last stuck rs z next h = refl

pub some_found : {X : Type 0} {o : Option X} {x : X} (next : X → Next) (rs : Registers) (z : MidState) → o ≡ Some x → with_some o next rs z ≡ next x rs z
unfolding with_some
some_found next rs z e = ap (λ o. with_some o next rs z) e

pub first_chosen : {b : Bool} (first second : Next) (rs : Registers) (z : MidState) → b ≡ true → choose_by b first second rs z ≡ first rs z
unfolding choose_by
first_chosen first second rs z e = ap (λ b. choose_by b first second rs z) e

pub second_chosen : {b : Bool} (first second : Next) (rs : Registers) (z : MidState) → b ≡ false → choose_by b first second rs z ≡ second rs z
unfolding choose_by
second_chosen first second rs z e = ap (λ b. choose_by b first second rs z) e

-- where code falls out, it jumps; every other end passes
pub jumped_falls : {r : MidOutcome} {rs : Registers} {z : MidState} → r ≡ ends falls rs z → jumped r ≡ ends falls rs (charged jump_cost z)
unfolding go_on
jumped_falls e = ap jumped e

pub jumped_last : {r : MidOutcome} {e : End} {rs : Registers} {z : MidState} → IsLast e → r ≡ ends e rs z → jumped r ≡ ends e rs z
jumped_last {e = e} {rs = rs} {z = z} h same = ap jumped same ∙ go_on_last e rs z _ h

-- the parts of a loop: its test, a turn, and what follows the turn

abbrev pub loop_again : Context → Counted → MidCode → Test → MidCode → Next
loop_again c how head t body rs z = count c how (again (repeat how head t body) rs) z

abbrev pub loop_turn : Context → Counted → MidCode → Test → MidCode → Next
loop_turn c how head t body rs z = go_on (jumped (exec c body rs z)) (loop_again c how head t body)

abbrev pub loop_test : Context → Counted → MidCode → Test → MidCode → Next
loop_test c how head t body rs z = test t (loop_turn c how head t body) (ends falls) rs z

-- addresses

pub address_up : (b k : ℕ) → b + k < 2 ^ 32 → address b (pos k) ≡ b + k
address_up b k h = low_word_of_word (b + k) h

pub address_down : (b k : ℕ) → b + suc k < 2 ^ 32 → address (b + suc k) (negsuc k) ≡ b
address_down b k h =
    let e : (pos (b + suc k) +ℤ negsuc k) ≡ pos b = omega (arith, ints) in
    ap low_word e ∙ low_word_of_word b (omega arith)

pub address_here : (b : ℕ) → b < 2 ^ 32 → address b (pos 0) ≡ b
address_here b h = address_up b 0 (omega arith) ∙ omega arith

-- the same, where the address is known in another form
pub address_above : (b k x : ℕ) → b + k ≡ x → x < 2 ^ 32 → address b (pos k) ≡ x
address_above b k x e h = address_up b k (omega arith) ∙ e

pub address_below : (b k x : ℕ) → b ≡ x + suc k → b < 2 ^ 32 → address b (negsuc k) ≡ x
address_below b k x e h = ap (λ n. address n (negsuc k)) e ∙ address_down x k (omega arith)

-- What code and a step come to, as records, so that a lemma finds the code, the registers and the state that it is about.

pub record RunsTo (c : Context) (code : MidCode) (rs : Registers) (z : MidState) (r : MidOutcome) : Type 0 where
  pub same : exec c code rs z ≡ r

pub record StepsTo (c : Context) (s : MidStep) (rs : Registers) (z : MidState) (r : MidOutcome) : Type 0 where
  pub same : exec_step c s rs z ≡ r

-- code with no step falls out
pub none_left : {c : Context} {rs : Registers} {z : MidState} → RunsTo c no_step rs z (ends falls rs z)
unfolding exec
none_left = record { same = refl }

-- where a step falls out, the code behind it goes on
pub step_falls :
    (c : Context) (s : MidStep) (code : MidCode) (rs rs' : Registers) (z z' : MidState) → exec_step c s rs z ≡ ends falls rs' z'
    → exec c (step_and s code) rs z ≡ exec c code rs' z'
unfolding exec go_on
step_falls c s code rs rs' z z' e = ap (λ r. go_on r (λ rs y. exec c code rs y)) e

-- where a step ends otherwise, so does the code
pub step_last :
    (c : Context) (s : MidStep) (code : MidCode) (e : End) (rs rs' : Registers) (z z' : MidState) → IsLast e → exec_step c s rs z ≡ ends e rs' z'
    → exec c (step_and s code) rs z ≡ ends e rs' z'
unfolding exec
step_last c s code e rs rs' z z' h same = ap (λ r. go_on r (λ rs y. exec c code rs y)) same ∙ go_on_last e rs' z' _ h

pub and_then :
    {c : Context} {s : MidStep} {code : MidCode} {rs rs' : Registers} {z z' : MidState} {r : MidOutcome} → StepsTo c s rs z (ends falls rs' z')
    → RunsTo c code rs' z' r → RunsTo c (step_and s code) rs z r
and_then {c = c} {s = s} {code = code} {rs = rs} {rs' = rs'} {z = z} {z' = z'} g h = record { same = step_falls c s code rs rs' z z' g.same ∙ h.same }

pub and_ends :
    {c : Context} {s : MidStep} {code : MidCode} {e : End} {rs rs' : Registers} {z z' : MidState} → IsLast e → StepsTo c s rs z (ends e rs' z')
    → RunsTo c (step_and s code) rs z (ends e rs' z')
and_ends {c = c} {s = s} {code = code} {e = e} {rs = rs} {rs' = rs'} {z = z} {z' = z'} l g = record { same = step_last c s code e rs rs' z z' l g.same }

-- the same run, with what it costs in one sum
pub costing :
    {c : Context} {code : MidCode} {e : End} {rs rs' : Registers} {z z' : MidState} {n : ℕ} → RunsTo c code rs z (ends e rs' z') → z'.cost ≡ n
    → RunsTo c code rs z (ends e rs' (record z' { cost = n }))
costing {e = e} {rs' = rs'} {z' = z'} g h = record { same = g.same ∙ ap (λ n. ends e rs' (record z' { cost = n })) h }

-- operations, where they succeed

pub move_falls :
    {c : Context} {to from w : ℕ} {rs : Registers} {z : MidState} → register from rs ≡ Some w
    → StepsTo c (perform (Move to from)) rs z (ends falls (slice_set rs to (Some w)) (charged (operation_cost (Move to from)) z))
unfolding exec
move_falls {to = to} {rs = rs} e = record { same = some_found (gives to) rs _ e }

pub constant_falls :
    {c : Context} {to w : ℕ} {rs : Registers} {z : MidState}
    → StepsTo c (perform (Constant to w)) rs z (ends falls (slice_set rs to (Some w)) (charged (operation_cost (Constant to w)) z))
unfolding exec
constant_falls = record { same = refl }

pub compute_falls :
    {c : Context} {to first second v w : ℕ} {how : Arithmetic} {rs : Registers} {z : MidState} → register first rs ≡ Some v → register second rs ≡ Some w
    → StepsTo c (perform (Compute to how first second)) rs z
    (ends falls (slice_set rs to (Some (computed how v w))) (charged (operation_cost (Compute to how first second)) z))
unfolding exec
compute_falls {to = to} {how = how} {rs = rs} e f = record { same = some_found _ rs _ e ∙ some_found (λ b. gives to (computed how _ b)) rs _ f }

-- the word that is computed is known in another form
pub compute_known :
    {c : Context} {to first second v w x : ℕ} {how : Arithmetic} {rs : Registers} {z : MidState} → register first rs ≡ Some v → register second rs ≡ Some w
    → computed how v w ≡ x
    → StepsTo c (perform (Compute to how first second)) rs z (ends falls (slice_set rs to (Some x)) (charged (operation_cost (Compute to how first second)) z))
compute_known {to = to} {first = first} {second = second} {how = how} {rs = rs} {z = z} e f same =
    let cost : ℕ = operation_cost (Compute to how first second) in
    record { same = (compute_falls e f).same ∙ ap (λ n. ends falls (slice_set rs to (Some n)) (charged cost z)) same }

pub load_falls :
    {c : Context} {to base b x w : ℕ} {offset : ℤ} {rs : Registers} {z : MidState} → register base rs ≡ Some b → address b offset ≡ x
    → word_at z.arena x ≡ Some w
    → StepsTo c (perform (Load to base offset)) rs z (ends falls (slice_set rs to (Some w)) (charged (operation_cost (Load to base offset)) z))
unfolding exec
load_falls {to = to} {rs = rs} {z = z} e same f =
    record { same = some_found _ rs _ e ∙ some_found (gives to) rs _ (ap (word_at z.arena) same ∙ f) }

pub store_falls :
    {c : Context} {from base b x w : ℕ} {offset : ℤ} {rs : Registers} {z : MidState} → register from rs ≡ Some w → register base rs ≡ Some b
    → address b offset ≡ x → is_lent z.arena x ≡ true
    → StepsTo c (perform (Store from base offset)) rs z
    (ends falls rs (with_arena (with_word x w z.arena) (charged (operation_cost (Store from base offset)) z)))
unfolding exec
store_falls {from = from} {base = base} {w = w} {offset = offset} {rs = rs} {z = z} e f same h =
    let cost : ℕ = operation_cost (Store from base offset) in
    record { same = some_found _ rs _ e ∙ some_found _ rs _ f ∙ ap (λ a. store a w (ends falls) rs (charged cost z)) same ∙ first_chosen _ _ rs _ h }

-- the address is in the heap
pub store_in_heap :
    {c : Context} {from base b x w : ℕ} {offset : ℤ} {rs : Registers} {z : MidState} → register from rs ≡ Some w → register base rs ≡ Some b
    → address b offset ≡ x → x % 4 ≡ 0 → z.arena.heap_from ≤ x → x < z.arena.heap_to
    → StepsTo c (perform (Store from base offset)) rs z
    (ends falls rs (with_arena (with_word x w z.arena) (charged (operation_cost (Store from base offset)) z)))
store_in_heap {x = x} {z = z} e f same aligned low high = store_falls e f same (lent_in_heap z.arena x aligned low high)

-- the address is in a spot that stands
pub store_in_spot :
    {c : Context} {from base b x w : ℕ} {offset : ℤ} {rs : Registers} {z : MidState} {s : Spot} → SpotStands z.arena s → register from rs ≡ Some w
    → register base rs ≡ Some b → address b offset ≡ x → x % 4 ≡ 0 → s.address ≤ x → x < end_of s
    → StepsTo c (perform (Store from base offset)) rs z
    (ends falls rs (with_arena (with_word x w z.arena) (charged (operation_cost (Store from base offset)) z)))
store_in_spot {x = x} h e f same aligned low high = store_falls e f same (in_spot_lent x h aligned low high)

-- words are requested: so many are left
pub request_falls :
    {c : Context} {to words n : ℕ} {rs : Registers} {z : MidState} → register words rs ≡ Some n → n ≤ left z.arena
    → StepsTo c (perform (Request to words)) rs z
    (ends falls (slice_set rs to (Some z.arena.heap_to)) (with_arena (with_heap n z.arena) (charged (operation_cost (Request to words)) z)))
unfolding exec
request_falls {rs = rs} e h = record { same = some_found _ rs _ e ∙ first_chosen _ _ rs _ (le-leb _ _ h) }

-- or they are not
pub request_wanting :
    {c : Context} {to words n : ℕ} {rs : Registers} {z : MidState} → register words rs ≡ Some n → left z.arena < n
    → StepsTo c (perform (Request to words)) rs z (ends (no_room n (left z.arena)) rs (charged (operation_cost (Request to words)) z))
unfolding exec
request_wanting {rs = rs} e h = record { same = some_found _ rs _ e ∙ second_chosen _ _ rs _ (lt-leb _ _ h) }

pub put_falls :
    {c : Context} {from w : ℕ} {rs : Registers} {z : MidState} → register from rs ≡ Some w
    → StepsTo c (perform (Put from)) rs z (ends falls rs (record (charged (operation_cost (Put from)) z) { printed = z.printed ++ w % 256 ∷ [] }))
unfolding exec
put_falls {rs = rs} e = record { same = some_found _ rs _ e }

-- a byte of the input is taken; behind its end the word is all ones
pub get_falls :
    {c : Context} {to byte : ℕ} {bytes : List ℕ} {rs : Registers} {z : MidState} → z.input ≡ byte ∷ bytes
    → StepsTo c (perform (Get to)) rs z (ends falls (slice_set rs to (Some byte)) (record (charged (operation_cost (Get to)) z) { input = bytes }))
unfolding exec
get_falls {to = to} {rs = rs} {z = z} e = record { same = ap (λ l. get_from l to rs (charged (operation_cost (Get to)) z)) e }

pub get_at_end :
    {c : Context} {to : ℕ} {rs : Registers} {z : MidState} → z.input ≡ []
    → StepsTo c (perform (Get to)) rs z (ends falls (slice_set rs to (Some (2 ^ 32 - 1))) (charged (operation_cost (Get to)) z))
unfolding exec
get_at_end {to = to} {rs = rs} {z = z} e = record { same = ap (λ l. get_from l to rs (charged (operation_cost (Get to)) z)) e }

-- the word in a register is returned
pub return_ends :
    {c : Context} {r w : ℕ} {rs : Registers} {z : MidState} → register r rs ≡ Some w
    → StepsTo c (return_word r) rs z (ends (returns w) rs (charged return_cost z))
unfolding exec
return_ends {rs = rs} e = record { same = some_found _ rs _ e }

-- choices, by a test that is known

pub test_true :
    {a b : ℕ} (t : Test) (first second : Next) (rs : Registers) (z : MidState) → register t.first rs ≡ Some a → register t.second rs ≡ Some b
    → compares t.comparison a b ≡ true → test t first second rs z ≡ first rs (charged test_cost z)
test_true t first second rs z e f h = some_found _ rs _ e ∙ some_found _ rs _ f ∙ first_chosen first second rs _ h

pub test_false :
    {a b : ℕ} (t : Test) (first second : Next) (rs : Registers) (z : MidState) → register t.first rs ≡ Some a → register t.second rs ≡ Some b
    → compares t.comparison a b ≡ false → test t first second rs z ≡ second rs (charged test_cost z)
test_false t first second rs z e f h = some_found _ rs _ e ∙ some_found _ rs _ f ∙ second_chosen first second rs _ h

pub choose_first :
    {c : Context} {t : Test} {first second : MidCode} {a b : ℕ} {rs : Registers} {z : MidState} {r : MidOutcome} → register t.first rs ≡ Some a
    → register t.second rs ≡ Some b → compares t.comparison a b ≡ true → RunsTo c first rs (charged test_cost z) r
    → StepsTo c (choose t first second) rs z (jumped r)
unfolding exec
choose_first {c = c} {t = t} {first = first} {second = second} {rs = rs} {z = z} e f h g =
    record { same = test_true t (λ rs' y. jumped (exec c first rs' y)) (λ rs' y. jumped (exec c second rs' y)) rs z e f h ∙ ap jumped g.same }

pub choose_second :
    {c : Context} {t : Test} {first second : MidCode} {a b : ℕ} {rs : Registers} {z : MidState} {r : MidOutcome} → register t.first rs ≡ Some a
    → register t.second rs ≡ Some b → compares t.comparison a b ≡ false → RunsTo c second rs (charged test_cost z) r
    → StepsTo c (choose t first second) rs z (jumped r)
unfolding exec
choose_second {c = c} {t = t} {first = first} {second = second} {rs = rs} {z = z} e f h g =
    record { same = test_false t (λ rs' y. jumped (exec c first rs' y)) (λ rs' y. jumped (exec c second rs' y)) rs z e f h ∙ ap jumped g.same }

-- the branch falls out, and the code behind goes on
pub choose_first_falls :
    {c : Context} {t : Test} {first second : MidCode} {a b : ℕ} {rs rs' : Registers} {z z' : MidState} → register t.first rs ≡ Some a
    → register t.second rs ≡ Some b → compares t.comparison a b ≡ true → RunsTo c first rs (charged test_cost z) (ends falls rs' z')
    → StepsTo c (choose t first second) rs z (ends falls rs' (charged jump_cost z'))
choose_first_falls e f h g = record { same = (choose_first e f h g).same ∙ jumped_falls refl }

pub choose_second_falls :
    {c : Context} {t : Test} {first second : MidCode} {a b : ℕ} {rs rs' : Registers} {z z' : MidState} → register t.first rs ≡ Some a
    → register t.second rs ≡ Some b → compares t.comparison a b ≡ false → RunsTo c second rs (charged test_cost z) (ends falls rs' z')
    → StepsTo c (choose t first second) rs z (ends falls rs' (charged jump_cost z'))
choose_second_falls e f h g = record { same = (choose_second e f h g).same ∙ jumped_falls refl }

-- the branch ends otherwise
pub choose_first_ends :
    {c : Context} {t : Test} {first second : MidCode} {a b : ℕ} {e : End} {rs rs' : Registers} {z z' : MidState} → IsLast e → register t.first rs ≡ Some a
    → register t.second rs ≡ Some b → compares t.comparison a b ≡ true → RunsTo c first rs (charged test_cost z) (ends e rs' z')
    → StepsTo c (choose t first second) rs z (ends e rs' z')
choose_first_ends l e f h g = record { same = (choose_first e f h g).same ∙ jumped_last l refl }

pub choose_second_ends :
    {c : Context} {t : Test} {first second : MidCode} {a b : ℕ} {e : End} {rs rs' : Registers} {z z' : MidState} → IsLast e → register t.first rs ≡ Some a
    → register t.second rs ≡ Some b → compares t.comparison a b ≡ false → RunsTo c second rs (charged test_cost z) (ends e rs' z')
    → StepsTo c (choose t first second) rs z (ends e rs' z')
choose_second_ends l e f h g = record { same = (choose_second e f h g).same ∙ jumped_last l refl }

-- code in two parts

pub go_on_twice : (r : MidOutcome) (f g : Next) → go_on (go_on r f) g ≡ go_on r (λ rs z. go_on (f rs z) g)
unfolding go_on
go_on_twice r f g = from r.end r.registers r.state
  where
    from : (e : End) (rs : Registers) (z : MidState) → go_on (go_on (ends e rs z) f) g ≡ go_on (ends e rs z) (λ rs' y. go_on (f rs' y) g)
    from falls rs z = refl
    from e rs z = refl

pub go_on_same : (r : MidOutcome) (f g : Next) → ((rs : Registers) (z : MidState) → f rs z ≡ g rs z) → go_on r f ≡ go_on r g
unfolding go_on
go_on_same r f g h = from r.end r.registers r.state
  where
    from : (e : End) (rs : Registers) (z : MidState) → go_on (ends e rs z) f ≡ go_on (ends e rs z) g
    from falls rs z = h rs z
    from e rs z = refl

pub in_two_parts :
    (c : Context) (ss ts : List MidStep) (rs : Registers) (z : MidState)
    → exec c (code_of (ss ++ ts)) rs z ≡ go_on (exec c (code_of ss) rs z) (λ rs' y. exec c (code_of ts) rs' y)
unfolding exec go_on
in_two_parts c [] ts rs z = refl
in_two_parts c (s ∷ ss) ts rs z =
    go_on_same (exec_step c s rs z) (λ rs' y. exec c (code_of (ss ++ ts)) rs' y) (λ rs' y. go_on (exec c (code_of ss) rs' y) (λ rs'' x. exec c (code_of ts) rs'' x)) (in_two_parts c ss ts)
    ∙ sym (go_on_twice (exec_step c s rs z) (λ rs' y. exec c (code_of ss) rs' y) (λ rs' y. exec c (code_of ts) rs' y))

-- the first part falls out, and the second one goes on
pub parts_then :
    {c : Context} (ss ts : List MidStep) {rs rs' : Registers} {z z' : MidState} {r : MidOutcome} → RunsTo c (code_of ss) rs z (ends falls rs' z')
    → RunsTo c (code_of ts) rs' z' r → RunsTo c (code_of (ss ++ ts)) rs z r
unfolding go_on
parts_then {c = c} ss ts {rs = rs} {z = z} g h =
    record { same = in_two_parts c ss ts rs z ∙ ap (λ r. go_on r (λ rs' y. exec c (code_of ts) rs' y)) g.same ∙ h.same }

-- the first part ends otherwise
pub parts_end :
    {c : Context} (ss ts : List MidStep) {e : End} {rs rs' : Registers} {z z' : MidState} → IsLast e → RunsTo c (code_of ss) rs z (ends e rs' z')
    → RunsTo c (code_of (ss ++ ts)) rs z (ends e rs' z')
unfolding go_on
parts_end {c = c} ss ts {e = e} {rs = rs} {rs' = rs'} {z = z} {z' = z'} l g =
    record { same = in_two_parts c ss ts rs z ∙ ap (λ r. go_on r (λ rs' y. exec c (code_of ts) rs' y)) g.same ∙ go_on_last e rs' z' _ l }

-- loops

-- the test fails, and the loop falls out
pub repeat_falls :
    {c : Context} {how : Counted} {head body : MidCode} {t : Test} {a b : ℕ} {rs rs' : Registers} {z z' : MidState} → RunsTo c head rs z (ends falls rs' z')
    → register t.first rs' ≡ Some a → register t.second rs' ≡ Some b → compares t.comparison a b ≡ false
    → StepsTo c (repeat how head t body) rs z (ends falls rs' (charged test_cost z'))
unfolding exec go_on
repeat_falls {c = c} {how = how} {head = head} {body = body} {t = t} {rs' = rs'} {z' = z'} g e f h =
    record { same = ap (λ r. go_on r (loop_test c how head t body)) g.same ∙ test_false t (loop_turn c how head t body) (ends falls) rs' z' e f h }

-- the test holds, the body falls out and jumps, and the loop goes on
pub repeat_goes_on :
    {c : Context} {how : Counted} {head body : MidCode} {t : Test} {a b : ℕ} {rs rs' rs'' : Registers} {z z' z'' : MidState} → RunsTo c head rs z (ends falls rs' z')
    → register t.first rs' ≡ Some a → register t.second rs' ≡ Some b → compares t.comparison a b ≡ true
    → RunsTo c body rs' (charged test_cost z') (ends falls rs'' z'')
    → StepsTo c (repeat how head t body) rs z (count c how (again (repeat how head t body) rs'') (charged jump_cost z''))
unfolding exec go_on
repeat_goes_on {c = c} {how = how} {head = head} {body = body} {t = t} {rs' = rs'} {z' = z'} g e f h k =
    record {
      same =
          ap (λ r. go_on r (loop_test c how head t body)) g.same ∙ test_true t (loop_turn c how head t body) (ends falls) rs' z' e f h
          ∙ ap (λ r. go_on r (loop_again c how head t body)) (jumped_falls k.same);
    }

-- the test holds, and the body ends otherwise
pub repeat_ends :
    {c : Context} {how : Counted} {head body : MidCode} {t : Test} {a b : ℕ} {l : End} {rs rs' rs'' : Registers} {z z' z'' : MidState} → IsLast l
    → RunsTo c head rs z (ends falls rs' z') → register t.first rs' ≡ Some a → register t.second rs' ≡ Some b → compares t.comparison a b ≡ true
    → RunsTo c body rs' (charged test_cost z') (ends l rs'' z'') → StepsTo c (repeat how head t body) rs z (ends l rs'' z'')
unfolding exec go_on
repeat_ends {c = c} {how = how} {head = head} {body = body} {t = t} {l = l} {rs' = rs'} {rs'' = rs''} {z' = z'} {z'' = z''} last g e f h k =
    record {
      same =
          ap (λ r. go_on r (loop_test c how head t body)) g.same ∙ test_true t (loop_turn c how head t body) (ends falls) rs' z' e f h
          ∙ ap (λ r. go_on r (loop_again c how head t body)) (jumped_last last k.same) ∙ go_on_last l rs'' z'' _ last;
    }

-- where so many turns are left for loops
abbrev pub turning : List MidProcedure → (below : Task → MidState → MidOutcome) → ℕ → Context
turning procedures below n = context_of procedures below (turns procedures below n)

-- a loop that counts turns goes on with one less
pub repeat_turn :
    (procedures : List MidProcedure) (below : Task → MidState → MidOutcome) (n : ℕ) {head body : MidCode} {t : Test} {a b : ℕ} {rs rs' rs'' : Registers}
    {z z' z'' : MidState} {r : MidOutcome} → RunsTo (turning procedures below (suc n)) head rs z (ends falls rs' z') → register t.first rs' ≡ Some a
    → register t.second rs' ≡ Some b → compares t.comparison a b ≡ true
    → RunsTo (turning procedures below (suc n)) body rs' (charged test_cost z') (ends falls rs'' z'')
    → StepsTo (turning procedures below n) (repeat Turn head t body) rs'' (charged jump_cost z'') r
    → StepsTo (turning procedures below (suc n)) (repeat Turn head t body) rs z r
unfolding turns
repeat_turn procedures below n g e f h k more = record { same = (repeat_goes_on g e f h k).same ∙ more.same }

-- procedures

-- the frame of a procedure
abbrev pub frame_of : MidProcedure → Block
frame_of p = record { words = p.frame; kind = activation_frame }

-- a state where a procedure was entered: the entry is paid, and the frame is laid
abbrev pub entered : MidProcedure → MidState → MidState
entered p z = with_arena (with_new_block (frame_of p) z.arena) (charged (entry_cost p.parameters) z)

-- what a procedure comes to that is entered with a turn, as a record for the same reason
pub record EntersTo (procedures : List MidProcedure) (below : Task → MidState → MidOutcome) (n : ℕ) (p : MidProcedure) (ws : List ℕ) (z : MidState) (r : MidOutcome) : Type 0 where
  pub same : turns procedures below (suc n) (enter p ws) z ≡ r

-- its frame is not left
pub enters_wanting :
    {procedures : List MidProcedure} {below : Task → MidState → MidOutcome} {n : ℕ} {p : MidProcedure} {ws : List ℕ} {z : MidState} → length ws ≡ p.parameters
    → left z.arena < p.frame
    → EntersTo procedures below n p ws z
    (ends (no_room p.frame (left z.arena)) (first_registers p.registers ws) (charged (entry_cost p.parameters) z))
unfolding turns
enters_wanting {p = p} e h = record { same = first_chosen _ _ _ _ (eq-eqb _ _ e) ∙ second_chosen _ _ _ _ (lt-leb _ _ h) }

-- its frame is left, and the body runs
pub enters :
    {procedures : List MidProcedure} {below : Task → MidState → MidOutcome} {n : ℕ} {p : MidProcedure} {ws : List ℕ} {z : MidState} {r : MidOutcome}
    → length ws ≡ p.parameters → p.frame ≤ left z.arena
    → RunsTo (turning procedures below n) (code_of p.body) (first_registers p.registers ws) (entered p z) r
    → EntersTo procedures below n p ws z (leaves z.arena.blocks r)
unfolding turns
enters {z = z} e h g =
    record { same = first_chosen _ _ _ _ (eq-eqb _ _ e) ∙ first_chosen _ _ _ _ (le-leb _ _ h) ∙ ap (leaves z.arena.blocks) g.same }
