-- Lines with names in the place of their registers fit as many names, where the lines fit their registers; the registers that those read are there.
use Rattle.std.proofs.Common.{inl, inr, ◌≡◌, ℕ, zero, suc, ◌<◌, Bool, true, false, ◌&&◌, ◌||◌, List, [], ◌∷◌, ◌++◌, length, map, Option, Some, refl, sym, subst, ◌∙◌, arith, eqb-true}
use Rattle.std.specs.Prelude.{◌⊎◌, ◌==◌, slice_get}
use Rattle.std.specs.List.{list_any, list_all}
use Rattle.std.proofs.lemmas.List.{length-map}
use Rattle.std.proofs.lemmas.Bool.{or_left, or_right}
use Rattle.std.proofs.lemmas.Bool.Decides.{nat_tests}
use Rattle.std.proofs.lemmas.List.Folds.{list_any-append}
use Rattle.mid_code.specs.declared.operation.Callee.{Callee}
use Rattle.mid_code.specs.declared.operation.Callee.TheVariants.{Procedure, Word}
use Rattle.mid_code.specs.declared.operation.Operation.{Operation}
use Rattle.mid_code.specs.declared.operation.Operation.TheVariants as operation
use Rattle.mid_code.specs.Checked.{is_register, is_constant, is_block_size, is_offset, callee_fits, operation_fits}
use Rattle.mid_lines.specs.declared.line.Line.{Line}
use Rattle.mid_lines.specs.declared.line.Line.TheVariants.{Do, Branch, Switch, Jump, Lay, Landed, GiveBack, Lend, GiveBackLent, Return, Cut, Halt, Unhandled}
use Rattle.mid_lines.specs.LinesChecked.{is_target, line_fits}
use Rattle.mid_lines.proofs.Conjunctions.{front_true, back_true, both_true}
use Rattle.back_places.specs.Facts.{callee_registers}
use Rattle.back_places.proofs.LinesInForm.{register_below}
use Rattle.back_allocation.specs.LineSteps.{operation_reads, operation_gives, line_reads, line_gives}
use Rattle.back_allocation.specs.Names.{named_callee, named_operation, named_line}
use Rattle.back_allocation.proofs.Naming.{is_one, is_first, is_later}
use Rattle.back_emit.specs.Fits.{passed_by}

-- where one of two lists of one length has an item, so has the other
pub there_of : {X Y : Type 0} (xs : List X) (ys : List Y) (i : ℕ) (x : X) → length ys ≡ length xs → slice_get xs i ≡ Some x → (y : Y) × (slice_get ys i ≡ Some y)
there_of [] ys i x e h = absurd (cc h)
there_of (x ∷ xs) [] i z e h = absurd (omega (arith, e))
there_of (x ∷ xs) (y ∷ ys) zero z e h = (y, refl)
there_of (x ∷ xs) (y ∷ ys) (suc i) z e h = there_of xs ys i z (omega (arith, e)) h

register_true : (count r : ℕ) → r < count → is_register count r ≡ true
register_true count r h = grind (arith, nat_tests, h)

-- numbers that are all below a bound
abbrev AllLow : (count : ℕ) → List ℕ → Type 0
AllLow count vs = (v : ℕ) → is_one v vs → v < count

none_low : (count : ℕ) → AllLow count []
none_low count v h = absurd (cc h)

one_of : (v r : ℕ) (vs : List ℕ) → is_one v (r ∷ vs) → (r ≡ v) ⊎ is_one v vs
one_of v r vs h = by (r == v) refl
  where
    by : (b : Bool) → (r == v) ≡ b → (r ≡ v) ⊎ is_one v vs
    by true e = inl (eqb-true r v e)
    by false e = inr (subst (λ b. (b || list_any (λ n. n == v) vs) ≡ true) e h)

and_low : (count r : ℕ) (vs : List ℕ) → is_register count r ≡ true → AllLow count vs → AllLow count (r ∷ vs)
and_low count r vs low more v h =
    elim (one_of v r vs h) [
      | inl e ↦ subst (λ n. n < count) e (register_below count r low)
      | inr k ↦ more v k
    ]

all_low : (count : ℕ) (vs : List ℕ) → list_all (is_register count) vs ≡ true → AllLow count vs
all_low count [] h = none_low count
all_low count (r ∷ vs) h =
    and_low count r vs (front_true (is_register count r) (list_all (is_register count) vs) h)
    (all_low count vs (back_true (is_register count r) (list_all (is_register count) vs) h))

both_low : (count : ℕ) (vs us : List ℕ) → AllLow count vs → AllLow count us → AllLow count (vs ++ us)
both_low count [] us a b = b
both_low count (r ∷ vs) us a b = λ v h.
    elim (one_of v r (vs ++ us) h) [
      | inl e ↦ a v (subst (λ n. is_one v (n ∷ vs)) (sym e) (is_first v vs))
      | inr k ↦ both_low count vs us (λ u g. a u (is_later r u vs g)) b v k
    ]

module _ (n : ℕ) where
  callee_low : (c : Callee) → callee_fits n c ≡ true → AllLow n (callee_registers c)
  callee_low (Procedure m) h = none_low n
  callee_low (Word r) h = and_low n r [] h (none_low n)

  operation_read : (o : Operation) → operation_fits n o ≡ true → AllLow n (operation_reads o)
  operation_read (operation.Move to from) h = and_low n from [] (back_true (is_register n to) (is_register n from) h) (none_low n)
  operation_read (operation.Constant to word) h = none_low n
  operation_read (operation.Compute to which first second) h =
      let both = front_true (is_register n to && is_register n first) (is_register n second) h in
      and_low n first (second ∷ []) (back_true (is_register n to) (is_register n first) both)
      (and_low n second [] (back_true (is_register n to && is_register n first) (is_register n second) h) (none_low n))
  operation_read (operation.Load to base offset) h =
      and_low n base [] (back_true (is_register n to) (is_register n base) (front_true (is_register n to && is_register n base) (is_offset offset) h)) (none_low n)
  operation_read (operation.Store from base offset) h =
      let both = front_true (is_register n from && is_register n base) (is_offset offset) h in
      and_low n from (base ∷ []) (front_true (is_register n from) (is_register n base) both)
      (and_low n base [] (back_true (is_register n from) (is_register n base) both) (none_low n))
  operation_read (operation.Request to words) h = and_low n words [] (back_true (is_register n to) (is_register n words) h) (none_low n)
  operation_read (operation.Draw to base offset) h =
      and_low n base [] (back_true (is_register n to) (is_register n base) (front_true (is_register n to && is_register n base) (is_offset offset) h)) (none_low n)
  operation_read (operation.Put from) h = and_low n from [] h (none_low n)
  operation_read (operation.Get to) h = none_low n
  operation_read (operation.Call to callee arguments) h =
      both_low n arguments (callee_registers callee)
      (all_low n arguments (back_true (is_register n to && callee_fits n callee) (list_all (is_register n) arguments) h))
      (callee_low callee (back_true (is_register n to) (callee_fits n callee) (front_true (is_register n to && callee_fits n callee) (list_all (is_register n) arguments) h)))

  pub line_read : (lines : ℕ) (x : Line) → line_fits n lines x ≡ true → AllLow n (line_reads x)
  line_read lines (Do o) h = operation_read o h
  line_read lines (Branch t otherwise) h =
      let both = front_true (is_register n t.first && is_register n t.second) (is_target lines otherwise) h in
      and_low n t.first (t.second ∷ []) (front_true (is_register n t.first) (is_register n t.second) both)
      (and_low n t.second [] (back_true (is_register n t.first) (is_register n t.second) both) (none_low n))
  line_read lines (Switch r targets) h = and_low n r [] (front_true (is_register n r) (list_all (is_target lines) targets) h) (none_low n)
  line_read lines (Jump to) h = none_low n
  line_read lines (Lay block words landing) h = none_low n
  line_read lines (Landed r) h = none_low n
  line_read lines (GiveBack words) h = none_low n
  line_read lines (Lend block words) h = and_low n words [] (back_true (is_register n block) (is_register n words) h) (none_low n)
  line_read lines GiveBackLent h = none_low n
  line_read lines (Return r) h = and_low n r [] h (none_low n)
  line_read lines (Cut block word) h =
      and_low n block (word ∷ []) (front_true (is_register n block) (is_register n word) h)
      (and_low n word [] (back_true (is_register n block) (is_register n word) h) (none_low n))
  line_read lines (Halt r) h = and_low n r [] h (none_low n)
  line_read lines (Unhandled class site condition) h =
      let rest = back_true (is_register n class) (is_register n site && is_register n condition) h in
      and_low n class (site ∷ condition ∷ []) (front_true (is_register n class) (is_register n site && is_register n condition) h)
      (and_low n site (condition ∷ []) (front_true (is_register n site) (is_register n condition) rest)
      (and_low n condition [] (back_true (is_register n site) (is_register n condition) rest) (none_low n)))

-- names that are below a bound, for all registers that are read, and for the one that is given a word
module _ (n m : ℕ) (f g : ℕ → ℕ) where
  abbrev ReadLow : List ℕ → Type 0
  ReadLow vs = (v : ℕ) → is_one v vs → f v < m

  abbrev GivenLow : Option ℕ → Type 0
  GivenLow o = (to : ℕ) → o ≡ Some to → g to < m

  first_low : (v : ℕ) (vs : List ℕ) → ReadLow (v ∷ vs) → is_register m (f v) ≡ true
  first_low v vs h = register_true m (f v) (h v (is_first v vs))

  rest_low : (v : ℕ) (vs : List ℕ) → ReadLow (v ∷ vs) → ReadLow vs
  rest_low v vs h u k = h u (is_later v u vs k)

  given_low : (to : ℕ) → GivenLow (Some to) → is_register m (g to) ≡ true
  given_low to h = register_true m (g to) (h to refl)

  mapped_low : (vs : List ℕ) → ReadLow vs → list_all (is_register m) (map f vs) ≡ true
  mapped_low [] h = refl
  mapped_low (v ∷ vs) h = both_true (is_register m (f v)) _ (first_low v vs h) (mapped_low vs (rest_low v vs h))

  callee_named_fits : (c : Callee) → ReadLow (callee_registers c) → callee_fits m (named_callee f g c) ≡ true
  callee_named_fits (Procedure k) h = refl
  callee_named_fits (Word r) h = first_low r [] h

  operation_named_fits : (o : Operation) → operation_fits n o ≡ true → ReadLow (operation_reads o) → GivenLow (operation_gives o) → operation_fits m (named_operation f g o) ≡ true
  operation_named_fits (operation.Move to from) h r w = both_true _ _ (given_low to w) (first_low from [] r)
  operation_named_fits (operation.Constant to word) h r w = both_true _ _ (given_low to w) (back_true (is_register n to) (is_constant word) h)
  operation_named_fits (operation.Compute to which first second) h r w =
      both_true _ _ (both_true _ _ (given_low to w) (first_low first (second ∷ []) r)) (first_low second [] (rest_low first (second ∷ []) r))
  operation_named_fits (operation.Load to base offset) h r w =
      both_true _ _ (both_true _ _ (given_low to w) (first_low base [] r)) (back_true (is_register n to && is_register n base) (is_offset offset) h)
  operation_named_fits (operation.Store from base offset) h r w =
      both_true _ _ (both_true _ _ (first_low from (base ∷ []) r) (first_low base [] (rest_low from (base ∷ []) r)))
      (back_true (is_register n from && is_register n base) (is_offset offset) h)
  operation_named_fits (operation.Request to words) h r w = both_true _ _ (given_low to w) (first_low words [] r)
  operation_named_fits (operation.Draw to base offset) h r w =
      both_true _ _ (both_true _ _ (given_low to w) (first_low base [] r)) (back_true (is_register n to && is_register n base) (is_offset offset) h)
  operation_named_fits (operation.Put from) h r w = first_low from [] r
  operation_named_fits (operation.Get to) h r w = given_low to w
  operation_named_fits (operation.Call to callee arguments) h r w =
      both_true _ _
      (both_true _ _ (given_low to w)
      (callee_named_fits callee (λ v k. r v (list_any-append (λ z. z == v) arguments (callee_registers callee) ∙ or_right (list_any (λ z. z == v) arguments) _ k))))
      (mapped_low arguments (λ v k. r v (list_any-append (λ z. z == v) arguments (callee_registers callee) ∙ or_left (list_any (λ z. z == v) arguments) _ k)))

  pub named_fits : (lines : ℕ) (x : Line) → line_fits n lines x ≡ true → ReadLow (line_reads x) → GivenLow (line_gives x) → line_fits m lines (named_line f g x) ≡ true
  named_fits lines (Do o) h r w = operation_named_fits o h r w
  named_fits lines (Branch t otherwise) h r w =
      both_true _ _ (both_true _ _ (first_low t.first (t.second ∷ []) r) (first_low t.second [] (rest_low t.first (t.second ∷ []) r)))
      (back_true (is_register n t.first && is_register n t.second) (is_target lines otherwise) h)
  named_fits lines (Switch a targets) h r w = both_true _ _ (first_low a [] r) (back_true (is_register n a) (list_all (is_target lines) targets) h)
  named_fits lines (Jump to) h r w = h
  named_fits lines (Lay block words landing) h r w =
      both_true _ _ (given_low block w) (back_true (is_register n block) (is_block_size words && is_target lines landing) h)
  named_fits lines (Landed a) h r w = given_low a w
  named_fits lines (GiveBack words) h r w = h
  named_fits lines (Lend block words) h r w = both_true _ _ (given_low block w) (first_low words [] r)
  named_fits lines GiveBackLent h r w = h
  named_fits lines (Return a) h r w = first_low a [] r
  named_fits lines (Cut block word) h r w = both_true _ _ (first_low block (word ∷ []) r) (first_low word [] (rest_low block (word ∷ []) r))
  named_fits lines (Halt a) h r w = first_low a [] r
  named_fits lines (Unhandled class site condition) h r w =
      both_true _ _ (first_low class (site ∷ condition ∷ []) r)
      (both_true _ _ (first_low site (condition ∷ []) (rest_low class (site ∷ condition ∷ []) r))
      (first_low condition [] (rest_low site (condition ∷ []) (rest_low class (site ∷ condition ∷ []) r))))

-- as many arguments are passed
pub passed_named : (f g : ℕ → ℕ) (x : Line) → passed_by (named_line f g x) ≡ passed_by x
passed_named f g (Do (operation.Call to callee arguments)) = length-map arguments f
passed_named f g (Do (operation.Move to from)) = refl
passed_named f g (Do (operation.Constant to word)) = refl
passed_named f g (Do (operation.Compute to which first second)) = refl
passed_named f g (Do (operation.Load to base offset)) = refl
passed_named f g (Do (operation.Store from base offset)) = refl
passed_named f g (Do (operation.Request to words)) = refl
passed_named f g (Do (operation.Draw to base offset)) = refl
passed_named f g (Do (operation.Put from)) = refl
passed_named f g (Do (operation.Get to)) = refl
passed_named f g (Branch t otherwise) = refl
passed_named f g (Switch r targets) = refl
passed_named f g (Jump to) = refl
passed_named f g (Lay block words landing) = refl
passed_named f g (Landed r) = refl
passed_named f g (GiveBack words) = refl
passed_named f g (Lend block words) = refl
passed_named f g GiveBackLent = refl
passed_named f g (Return r) = refl
passed_named f g (Cut block word) = refl
passed_named f g (Halt r) = refl
passed_named f g (Unhandled class site condition) = refl
