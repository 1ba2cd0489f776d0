-- What a line with names does: it reads the names of the registers that the line reads, and goes where that goes.
use Rattle.std.proofs.Common.{inl, inr, ◌≡◌, ℕ, zero, suc, ◌+◌, ◌<◌, ◌≤◌, Bool, true, false, ◌||◌, ◌&&◌, List, [], ◌∷◌, ◌++◌, length, length-append, map, Option, Some, None, option_map, refl, sym, ap, subst, ◌∙◌, arith, eqb-true, eq-eqb}
use Rattle.std.specs.Prelude.{◌⊎◌, ◌==◌, nat_lt, slice_get, slice_index, if◌then◌else◌}
use borrow.Author.Tests.{ltb-true, ltb-false}
use Rattle.std.specs.List.{list_any}
use Rattle.std.proofs.lemmas.List.{map-append}
use Rattle.std.proofs.lemmas.List.Folds.{list_any-append}
use Rattle.mid_code.specs.declared.operation.Callee.{Callee}
use Rattle.mid_code.specs.declared.operation.Callee.TheVariants.{Procedure, Word}
use Rattle.mid_code.specs.declared.operation.Operation.{Operation}
use Rattle.mid_code.specs.declared.operation.Operation.TheVariants as operation
use Rattle.mid_lines.specs.declared.line.Line.{Line}
use Rattle.mid_lines.specs.declared.line.Line.TheVariants.{Do, Branch, Switch, Jump, Lay, Landed, GiveBack, Lend, GiveBackLent, Return, Cut, Halt, Unhandled}
use Rattle.back_places.specs.declared.place.Place.{Place}
use Rattle.back_places.specs.Facts.{callee_registers}
use Rattle.back_liveness.specs.declared.barrier.Barrier.{Barrier}
use Rattle.back_liveness.specs.Barriers.{Crosses, barrier_at}
use Rattle.back_liveness.proofs.Around.{there_below}
use Rattle.back_liveness.proofs.Lists.{or_back}
use Rattle.back_liveness.proofs.Forwards.{or_front}
use Rattle.back_allocation.specs.LineSteps.{operation_reads, operation_gives, line_reads, line_gives, line_falls, line_aside}
use Rattle.back_allocation.specs.Names.{named_callee, named_operation, named_line, name_among, read_name, name_or_none, given_name, IsNaming, AreNamings, IsPassedIn, NamesStand}
use Rattle.back_allocation.specs.NamesFound.{owner_in, checked_name, name_in, AreGrouped, AreOverwritten}
use Rattle.back_allocation.specs.Standing.{MayCut}

pub below_or_not : (a b : ℕ) → (a < b) ⊎ (b ≤ a)
below_or_not a b = by (nat_lt a b) refl
  where
    by : (c : Bool) → nat_lt a b ≡ c → (a < b) ⊎ (b ≤ a)
    by true e = inl (ltb-true a b e)
    by false e = inr (ltb-false a b e)

abbrev pub is_one : ℕ → List ℕ → Type 0
is_one v vs = list_any (λ r. r == v) vs ≡ true

pub is_first : (v : ℕ) (vs : List ℕ) → is_one v (v ∷ vs)
is_first v vs = or_front (v == v) _ (eq-eqb v v refl)

pub is_later : (r v : ℕ) (vs : List ℕ) → is_one v vs → is_one v (r ∷ vs)
is_later r v vs h = or_back (r == v) _ h

in_map_by :
    (f : ℕ → ℕ) (v r : ℕ) (vs : List ℕ) → is_one v (r ∷ vs) → (is_one v vs → is_one (f v) (map f vs)) → (b : Bool) → (r == v) ≡ b
    → is_one (f v) (map f (r ∷ vs))
in_map_by f v r vs h later true e =
    let q : r ≡ v = eqb-true r v e in subst (λ n. is_one (f v) (f n ∷ map f vs)) (sym q) (is_first (f v) (map f vs))
in_map_by f v r vs h later false e = is_later (f r) (f v) (map f vs) (later (subst (λ b. (b || list_any (λ n. n == v) vs) ≡ true) e h))

-- what is listed is listed when it is mapped
pub in_map : (f : ℕ → ℕ) (v : ℕ) (vs : List ℕ) → is_one v vs → is_one (f v) (map f vs)
in_map f v [] h = absurd (cc h)
in_map f v (r ∷ vs) h = in_map_by f v r vs h (λ k. in_map f v vs k) (r == v) refl

module _ (f g : ℕ → ℕ) where
  callee_named : (c : Callee) → callee_registers (named_callee f g c) ≡ map f (callee_registers c)
  callee_named (Procedure n) = refl
  callee_named (Word r) = refl

  operation_reads_named : (o : Operation) → operation_reads (named_operation f g o) ≡ map f (operation_reads o)
  operation_reads_named (operation.Move to from) = refl
  operation_reads_named (operation.Constant to word) = refl
  operation_reads_named (operation.Compute to which first second) = refl
  operation_reads_named (operation.Load to base offset) = refl
  operation_reads_named (operation.Store from base offset) = refl
  operation_reads_named (operation.Request to words) = refl
  operation_reads_named (operation.Draw to base offset) = refl
  operation_reads_named (operation.Put from) = refl
  operation_reads_named (operation.Get to) = refl
  operation_reads_named (operation.Call to callee arguments) =
      ap (λ r. map f arguments ++ r) (callee_named callee) ∙ sym (map-append f arguments (callee_registers callee))

  pub reads_named : (x : Line) → line_reads (named_line f g x) ≡ map f (line_reads x)
  reads_named (Do o) = operation_reads_named o
  reads_named (Branch t otherwise) = refl
  reads_named (Switch r targets) = refl
  reads_named (Jump to) = refl
  reads_named (Lay block words landing) = refl
  reads_named (Landed r) = refl
  reads_named (GiveBack words) = refl
  reads_named (Lend block words) = refl
  reads_named GiveBackLent = refl
  reads_named (Return r) = refl
  reads_named (Cut block word) = refl
  reads_named (Halt r) = refl
  reads_named (Unhandled class site condition) = refl

  operation_gives_named : (o : Operation) → operation_gives (named_operation f g o) ≡ option_map g (operation_gives o)
  operation_gives_named (operation.Move to from) = refl
  operation_gives_named (operation.Constant to word) = refl
  operation_gives_named (operation.Compute to which first second) = refl
  operation_gives_named (operation.Load to base offset) = refl
  operation_gives_named (operation.Store from base offset) = refl
  operation_gives_named (operation.Request to words) = refl
  operation_gives_named (operation.Draw to base offset) = refl
  operation_gives_named (operation.Put from) = refl
  operation_gives_named (operation.Get to) = refl
  operation_gives_named (operation.Call to callee arguments) = refl

  pub gives_named : (x : Line) → line_gives (named_line f g x) ≡ option_map g (line_gives x)
  gives_named (Do o) = operation_gives_named o
  gives_named (Branch t otherwise) = refl
  gives_named (Switch r targets) = refl
  gives_named (Jump to) = refl
  gives_named (Lay block words landing) = refl
  gives_named (Landed r) = refl
  gives_named (GiveBack words) = refl
  gives_named (Lend block words) = refl
  gives_named GiveBackLent = refl
  gives_named (Return r) = refl
  gives_named (Cut block word) = refl
  gives_named (Halt r) = refl
  gives_named (Unhandled class site condition) = refl

  pub falls_named : (x : Line) → line_falls (named_line f g x) ≡ line_falls x
  falls_named (Do o) = refl
  falls_named (Branch t otherwise) = refl
  falls_named (Switch r targets) = refl
  falls_named (Jump to) = refl
  falls_named (Lay block words landing) = refl
  falls_named (Landed r) = refl
  falls_named (GiveBack words) = refl
  falls_named (Lend block words) = refl
  falls_named GiveBackLent = refl
  falls_named (Return r) = refl
  falls_named (Cut block word) = refl
  falls_named (Halt r) = refl
  falls_named (Unhandled class site condition) = refl

  operation_aside_named : (ls : List ℕ) (o : Operation) → line_aside ls (Do (named_operation f g o)) ≡ line_aside ls (Do o)
  operation_aside_named ls (operation.Move to from) = refl
  operation_aside_named ls (operation.Constant to word) = refl
  operation_aside_named ls (operation.Compute to which first second) = refl
  operation_aside_named ls (operation.Load to base offset) = refl
  operation_aside_named ls (operation.Store from base offset) = refl
  operation_aside_named ls (operation.Request to words) = refl
  operation_aside_named ls (operation.Draw to base offset) = refl
  operation_aside_named ls (operation.Put from) = refl
  operation_aside_named ls (operation.Get to) = refl
  operation_aside_named ls (operation.Call to callee arguments) = refl

  pub aside_named : (ls : List ℕ) (x : Line) → line_aside ls (named_line f g x) ≡ line_aside ls x
  aside_named ls (Do o) = operation_aside_named ls o
  aside_named ls (Branch t otherwise) = refl
  aside_named ls (Switch r targets) = refl
  aside_named ls (Jump to) = refl
  aside_named ls (Lay block words landing) = refl
  aside_named ls (Landed r) = refl
  aside_named ls (GiveBack words) = refl
  aside_named ls (Lend block words) = refl
  aside_named ls GiveBackLent = refl
  aside_named ls (Return r) = refl
  aside_named ls (Cut block word) = refl
  aside_named ls (Halt r) = refl
  aside_named ls (Unhandled class site condition) = refl

  operation_cuts : (o : Operation) → MayCut (Do o) → MayCut (Do (named_operation f g o))
  operation_cuts (operation.Call to callee arguments) h = tt
  operation_cuts o h = absurd h

  pub may_cut_named : (x : Line) → MayCut x → MayCut (named_line f g x)
  may_cut_named (Do o) h = operation_cuts o h
  may_cut_named (Cut block word) h = tt
  may_cut_named x h = absurd h

-- names that are the same for all registers that are read make the same line
module _ (f e g : ℕ → ℕ) where
  abbrev Same : List ℕ → Type 0
  Same vs = (v : ℕ) → is_one v vs → f v ≡ e v

  map_same : (vs : List ℕ) → Same vs → map f vs ≡ map e vs
  map_same [] h = refl
  map_same (v ∷ vs) h = ap (λ n. n ∷ map f vs) (h v (is_first v vs)) ∙ ap (λ ns. e v ∷ ns) (map_same vs (λ u k. h u (is_later v u vs k)))

  callee_same : (c : Callee) → Same (callee_registers c) → named_callee f g c ≡ named_callee e g c
  callee_same (Procedure n) h = refl
  callee_same (Word r) h = ap Word (h r (is_first r []))

  first_same : (v : ℕ) (vs : List ℕ) → Same (v ∷ vs) → f v ≡ e v
  first_same v vs h = h v (is_first v vs)

  second_same : (v u : ℕ) (vs : List ℕ) → Same (v ∷ u ∷ vs) → f u ≡ e u
  second_same v u vs h = h u (is_later v u (u ∷ vs) (is_first u vs))

  third_same : (v u t : ℕ) (vs : List ℕ) → Same (v ∷ u ∷ t ∷ vs) → f t ≡ e t
  third_same v u t vs h = h t (is_later v t (u ∷ t ∷ vs) (is_later u t (t ∷ vs) (is_first t vs)))

  operation_same : (o : Operation) → Same (operation_reads o) → named_operation f g o ≡ named_operation e g o
  operation_same (operation.Move to from) h = ap (operation.Move (g to)) (first_same from [] h)
  operation_same (operation.Constant to word) h = refl
  operation_same (operation.Compute to which first second) h =
      ap (λ n. operation.Compute (g to) which n (f second)) (first_same first (second ∷ []) h)
      ∙ ap (operation.Compute (g to) which (e first)) (second_same first second [] h)
  operation_same (operation.Load to base offset) h = ap (λ n. operation.Load (g to) n offset) (first_same base [] h)
  operation_same (operation.Store from base offset) h =
      ap (λ n. operation.Store n (f base) offset) (first_same from (base ∷ []) h) ∙ ap (λ n. operation.Store (e from) n offset) (second_same from base [] h)
  operation_same (operation.Request to words) h = ap (operation.Request (g to)) (first_same words [] h)
  operation_same (operation.Draw to base offset) h = ap (λ n. operation.Draw (g to) n offset) (first_same base [] h)
  operation_same (operation.Put from) h = ap operation.Put (first_same from [] h)
  operation_same (operation.Get to) h = refl
  operation_same (operation.Call to callee arguments) h =
      ap (λ c. operation.Call (g to) c (map f arguments))
      (callee_same callee (λ v k. h v (list_any-append (λ r. r == v) arguments (callee_registers callee) ∙ or_back (list_any (λ r. r == v) arguments) _ k)))
      ∙ ap (operation.Call (g to) (named_callee e g callee))
      (map_same arguments (λ v k. h v (list_any-append (λ r. r == v) arguments (callee_registers callee) ∙ or_front (list_any (λ r. r == v) arguments) _ k)))

  pub line_same : (x : Line) → Same (line_reads x) → named_line f g x ≡ named_line e g x
  line_same (Do o) h = ap Do (operation_same o h)
  line_same (Branch t otherwise) h =
      ap (λ n. Branch (record t { first = n; second = f t.second }) otherwise) (first_same t.first (t.second ∷ []) h)
      ∙ ap (λ n. Branch (record t { first = e t.first; second = n }) otherwise) (second_same t.first t.second [] h)
  line_same (Switch r targets) h = ap (λ n. Switch n targets) (first_same r [] h)
  line_same (Jump to) h = refl
  line_same (Lay block words landing) h = refl
  line_same (Landed r) h = refl
  line_same (GiveBack words) h = refl
  line_same (Lend block words) h = ap (Lend (g block)) (first_same words [] h)
  line_same GiveBackLent h = refl
  line_same (Return r) h = ap Return (first_same r [] h)
  line_same (Cut block word) h = ap (λ n. Cut n (f word)) (first_same block (word ∷ []) h) ∙ ap (Cut (e block)) (second_same block word [] h)
  line_same (Halt r) h = ap Halt (first_same r [] h)
  line_same (Unhandled class site condition) h =
      ap (λ n. Unhandled n (f site) (f condition)) (first_same class (site ∷ condition ∷ []) h)
      ∙ ap (λ n. Unhandled (e class) n (f condition)) (second_same class site (condition ∷ []) h)
      ∙ ap (Unhandled (e class) (e site)) (third_same class site condition [] h)

found_by :
    (f : ℕ → ℕ) (v r : ℕ) (vs : List ℕ) → is_one v (r ∷ vs) → (is_one v vs → name_among vs (map f vs) v ≡ f v) → (b : Bool) → (r == v) ≡ b
    → name_among (r ∷ vs) (map f (r ∷ vs)) v ≡ f v
found_by f v r vs h later true e = ap (λ c. if c then f r else name_among vs (map f vs) v) e ∙ ap f (eqb-true r v e)
found_by f v r vs h later false e =
    ap (λ c. if c then f r else name_among vs (map f vs) v) e ∙ later (subst (λ b. (b || list_any (λ n. n == v) vs) ≡ true) e h)

-- the name of a register that is read is found among the names
pub found_name : (f : ℕ → ℕ) (v : ℕ) (vs : List ℕ) → is_one v vs → name_among vs (map f vs) v ≡ f v
found_name f v [] h = absurd (cc h)
found_name f v (r ∷ vs) h = found_by f v r vs h (λ k. found_name f v vs k) (r == v) refl

-- a line that is made with names has these names
module _ (owner : ℕ → ℕ) (names : ℕ) (f : ℕ → ℕ) (w : ℕ) (x y : Line) (is : y ≡ named_line f (λ to. w) x) where
  read_is : (v : ℕ) → is_one v (line_reads x) → read_name x y v ≡ f v
  read_is v h =
      ap (λ names. name_among (line_reads x) names v) (ap line_reads is ∙ reads_named f (λ to. w) x) ∙ found_name f v (line_reads x) h

  given_is : (to : ℕ) → line_gives x ≡ Some to → given_name y to ≡ w
  given_is to h = ap name_or_none (ap line_gives is ∙ (gives_named f (λ u. w) x ∙ ap (option_map (λ u. w)) h))

  given_same : (o : Option ℕ) → line_gives x ≡ o → named_line f (λ to. w) x ≡ named_line f (given_name y) x
  given_same (Some to) h = let q : w ≡ given_name y to = sym (given_is to h) in ap (λ n. named_line f (λ u. n) x) q
  given_same None h = gives_none x h
    where
      operation_none : (o : Operation) → operation_gives o ≡ None → named_operation f (λ to. w) o ≡ named_operation f (given_name y) o
      operation_none (operation.Store from base offset) k = refl
      operation_none (operation.Put from) k = refl
      operation_none o k = absurd (cc k)

      gives_none : (z : Line) → line_gives z ≡ None → named_line f (λ to. w) z ≡ named_line f (given_name y) z
      gives_none (Do o) k = ap Do (operation_none o k)
      gives_none (Lay block words landing) k = absurd (cc k)
      gives_none (Landed r) k = absurd (cc k)
      gives_none (Lend block words) k = absurd (cc k)
      gives_none z k = refl

  pub is_naming :
      ((v : ℕ) → is_one v (line_reads x) → (owner (f v) ≡ v) × (f v < names)) → ((to : ℕ) → line_gives x ≡ Some to → (owner w ≡ to) × (w < names))
      → IsNaming owner names x y
  is_naming reads gives = record {
    is = is ∙ (given_same (line_gives x) refl ∙ line_same f (read_name x y) (given_name y) x (λ v h. sym (read_is v h)));
    reads = λ v h. subst (λ n. (owner n ≡ v) × (n < names)) (sym (read_is v h)) (reads v h);
    gives = λ to h. subst (λ n. (owner n ≡ to) × (n < names)) (sym (given_is to h)) (gives to h);
  }

-- one item more
pub get_pushed :
    {X : Type 0} (xs : List X) (y b : X) (i : ℕ) → slice_get (xs ++ y ∷ []) i ≡ Some b → (slice_get xs i ≡ Some b) ⊎ ((i ≡ length xs) × (b ≡ y))
get_pushed [] y b zero h = inr (refl, cc h)
get_pushed [] y b (suc i) h = absurd (cc h)
get_pushed (x ∷ xs) y b zero h = inl h
get_pushed (x ∷ xs) y b (suc i) h =
    elim (get_pushed xs y b i h) [
      | inl k ↦ inl k
      | inr k ↦ inr (ap suc k.0, k.1)
    ]

pub length_pushed : {X : Type 0} (xs new : List X) (y : X) (at : ℕ) → length xs ≡ at → new ≡ xs ++ y ∷ [] → length new ≡ at + 1
length_pushed xs new y at count e = ap length e ∙ (length-append xs (y ∷ []) ∙ ap (λ n. n + 1) count)

pub naming_more :
    (owner : ℕ → ℕ) (names : ℕ) (lines named new : List Line) (at : ℕ) (x y : Line) → length named ≡ at → slice_get lines at ≡ Some x → new ≡ named ++ y ∷ []
    → IsNaming owner names x y → ((line : ℕ) (a b : Line) → slice_get lines line ≡ Some a → slice_get named line ≡ Some b → IsNaming owner names a b)
    → (line : ℕ) (a b : Line) → slice_get lines line ≡ Some a → slice_get new line ≡ Some b → IsNaming owner names a b
naming_more owner names lines named new at x y count there e one all line a b h k =
    elim (get_pushed named y b line (ap (λ ls. slice_get ls line) (sym e) ∙ k)) [
      | inl old ↦ all line a b h old
      | inr last ↦
          (let here : line ≡ at = last.0 ∙ count in
          let same : x ≡ a = cc (sym there ∙ (ap (slice_get lines) (sym here) ∙ h)) in
          subst (λ z. IsNaming owner names a z) (sym last.1) (subst (λ z. IsNaming owner names z y) same one))
    ]

-- a name that is checked is one of the register
checked_owned :
    (owners : List ℕ) (registers v w : ℕ) → registers ≤ length owners → ((u : ℕ) → u < registers → owner_in owners u ≡ u) → v < registers
    → (owner_in owners (checked_name owners v w) ≡ v) × (checked_name owners v w < length owners)
checked_owned owners registers v w few own low = by (nat_lt w (length owners)) refl (slice_index owners w == v) refl
  where
    by :
        (a : Bool) → nat_lt w (length owners) ≡ a → (b : Bool) → (slice_index owners w == v) ≡ b
        → (owner_in owners (checked_name owners v w) ≡ v) × (checked_name owners v w < length owners)
    by true e true g =
        let same : checked_name owners v w ≡ w = ap (λ c. if c && (slice_index owners w == v) then w else v) e ∙ ap (λ c. if c then w else v) g in
        (ap (owner_in owners) same ∙ eqb-true (slice_index owners w) v g, (let low = ltb-true w (length owners) e in omega (arith, same, low)))
    by true e false g =
        let same : checked_name owners v w ≡ v = ap (λ c. if c && (slice_index owners w == v) then w else v) e ∙ ap (λ c. if c then w else v) g in
        (ap (owner_in owners) same ∙ own v low, omega (arith, same, low, few))
    by false e b g =
        let same : checked_name owners v w ≡ v = ap (λ c. if c && (slice_index owners w == v) then w else v) e in
        (ap (owner_in owners) same ∙ own v low, omega (arith, same, low, few))

-- a line that is made with names that are checked is a naming
pub checked_naming :
    (owners other current starts ends : List ℕ) (registers given found : ℕ) (x y : Line) → AreGrouped owners starts ends registers → other ≡ owners
    → y ≡ named_line (name_in other current) (λ to. given) x → ((to : ℕ) → line_gives x ≡ Some to → given ≡ checked_name other to found)
    → ((v : ℕ) → is_one v (line_reads x) → v < registers) → ((to : ℕ) → line_gives x ≡ Some to → to < registers)
    → IsNaming (owner_in owners) (length owners) x y
checked_naming owners other current starts ends registers given found x y g e is checked read gives =
    is_naming (owner_in owners) (length owners) (name_in owners current) given x y
    (subst (λ (o : List ℕ). y ≡ named_line (name_in o current) (λ to. given) x) e is)
    (λ v h. checked_owned owners registers v (slice_index current v) g.few g.own (read v h))
    (λ to h.
    subst (λ n. (owner_in owners n ≡ to) × (n < length owners)) (sym (checked to h ∙ ap (λ (o : List ℕ). checked_name o to found) e)) (checked_owned owners registers to found g.few g.own (gives to h)))

there_before : {X Y : Type 0} (xs : List X) (ys : List Y) (i : ℕ) (y : Y) → length ys ≡ length xs → slice_get ys i ≡ Some y → (x : X) × (slice_get xs i ≡ Some x)
there_before xs [] i y e h = absurd (cc h)
there_before [] (z ∷ ys) i y e h = absurd (omega (arith, e))
there_before (x ∷ xs) (z ∷ ys) zero y e h = (x, refl)
there_before (x ∷ xs) (z ∷ ys) (suc i) y e h = there_before xs ys i y (omega (arith, e)) h

-- a name that is given is one of so many
pub given_low :
    (owner : ℕ → ℕ) (names : ℕ) (lines named : List Line) → AreNamings owner names lines named
    → (line to : ℕ) (y : Line) → slice_get named line ≡ Some y → line_gives y ≡ Some to → to < names
given_low owner names lines named are line to y h e =
    let x = there_before lines named line y are.count h in
    let n = are.each line x.0 y x.1 h in
    by x.0 n (line_gives x.0) refl
  where
    by : (x : Line) → IsNaming owner names x y → (o : Option ℕ) → line_gives x ≡ o → to < names
    by x n None g = absurd (cc (sym e ∙ (ap line_gives n.is ∙ (gives_named (read_name x y) (given_name y) x ∙ ap (option_map (given_name y)) g))))
    by x n (Some u) g =
        let low = (n.gives u g).1 in
        let same : given_name y u ≡ to = ap name_or_none e in
        omega (arith, low, same)

-- Where none is alive where it is overwritten, and all but the first that are there at the entry stand where their registers are passed, names
-- say what registers have.
pub names_clear :
    (named : List Line) (owners starts ends : List ℕ) (registers : ℕ) (barriers : List Barrier) (spot : (name : ℕ) → Place) (begins : (name : ℕ) → Bool)
    (alive : (name line : ℕ) → Bool) → AreGrouped owners starts ends registers → AreOverwritten named (owner_in owners) (length owners) barriers (length named)
    → ((v line : ℕ) → v < length owners → alive v line ≡ true → Crosses (barrier_at barriers line) v → ⊥)
    → ((v : ℕ) → v < length owners → alive v 0 ≡ true → begins v ≡ true)
    → ((w : ℕ) → registers ≤ w → w < length owners → begins w ≡ true → IsPassedIn (owner_in owners w) (spot w))
    → NamesStand named registers (owner_in owners) (length owners) spot alive
names_clear named owners starts ends registers barriers spot begins alive g o clear begun passed = record {
  alone = λ line to w y h e low live ne same. clear w (line + 1) low live (o.written line to w y (there_below named line y h) h e low same ne);
  entry = λ w low live. elim (below_or_not w registers) [ inl k ↦ inl k | inr k ↦ inr (passed w k low (begun w low live)) ];
  own = g.own;
}

-- So they do where each register has one name, itself.
pub names_own :
    (named : List Line) (owners starts ends : List ℕ) (registers : ℕ) (spot : (name : ℕ) → Place) (alive : (name line : ℕ) → Bool)
    → AreGrouped owners starts ends registers → length owners ≡ registers
    → ((line to : ℕ) (y : Line) → slice_get named line ≡ Some y → line_gives y ≡ Some to → to < registers)
    → NamesStand named registers (owner_in owners) (length owners) spot alive
names_own named owners starts ends registers spot alive g count low = record {
  alone = λ line to w y h e below live ne same. ne (sym (g.own w (omega (arith, below, count))) ∙ (same ∙ g.own to (low line to y h e)));
  entry = λ w below live. inl (omega (arith, below, count));
  own = g.own;
}
