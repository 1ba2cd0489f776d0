-- What a node comes to, found by going down so many levels: what is found, it comes to.
use Rattle.std.proofs.Common.{◌≡◌, ℕ, zero, suc, List, [], ◌∷◌, Option, Some, None, refl, subst}
use Rattle.front_profile.specs.declared.elaboration.ElaboratedPart.{ElaboratedPart}
use Rattle.front_profile.specs.declared.elaboration.Made.{Made}
use Rattle.front_profile.specs.declared.tables.Tables.{Tables}
use Rattle.front_profile.specs.Nodes.{StaticContext, Part, Node, offends, unnamed, steps, calls, whole, refused, Standing, Verdict, stands, ended, behind, recorded}
use Rattle.front_profile.specs.Judged.{subject, Verdicts, all_stand, one_ended, in_front, made_verdict, Elaborates, offence, made, ElaboratesAll, ends, goes, stops}

abbrev pub made_from : Made → Option Verdicts → Option Verdict
made_from m None = None
made_from m (Some w) = Some (made_verdict m w)

abbrev pub in_front_of : ElaboratedPart → Option Verdicts → Option Verdicts
in_front_of r None = None
in_front_of r (Some w) = Some (in_front r w)

abbrev pub go_on : (Standing → Option Verdicts) → Option Verdict → Option Verdicts
go_on more None = None
go_on more (Some (ended e)) = Some (one_ended e)
go_on more (Some (stands m)) = more m

-- none where it is a derived form or a call of a macro, and where the levels do not suffice
abbrev mutual
  pub comes_to : ℕ → List (List ℕ) → Node → Option Verdict
  comes_to zero names x = None
  comes_to (suc n) names (offends p r) = Some (ended (refused p r))
  comes_to (suc n) names unnamed = None
  comes_to (suc n) names (steps a s d) = None
  comes_to (suc n) names (calls a s m d) = None
  comes_to (suc n) names (whole o i s xs m) = made_from m (all_come_to n names o i s xs)

  pub all_come_to : ℕ → List (List ℕ) → StaticContext → StaticContext → Tables → List Part → Option Verdicts
  all_come_to zero names o i s xs = None
  all_come_to (suc n) names o i s [] = Some (all_stand (record { found = []; tables = s }))
  all_come_to (suc n) names o i s (x ∷ xs) =
      go_on (λ m. in_front_of (recorded s x m.form) (all_come_to n names o (behind i s x) m.tables xs))
      (comes_to n names (subject names o i s x))

whole_comes : (names : List (List ℕ)) (o i : StaticContext) (s : Tables) (xs : List Part) (m : Made) (v : Verdict) (r : Option Verdicts) →
    ((w : Verdicts) → r ≡ Some w → ElaboratesAll names o i s xs w) → made_from m r ≡ Some v → Elaborates names (whole o i s xs m) v
whole_comes names o i s xs m v None all h = absurd (cc)
whole_comes names o i s xs m v (Some w) all h =
    let e : made_verdict m w ≡ v = cc in
    subst (λ u. Elaborates names (whole o i s xs m) u) e (made o i s xs m w (all w refl))

rest_goes : (names : List (List ℕ)) (o i : StaticContext) (s : Tables) (x : Part) (xs : List Part) (m : Standing) (w : Verdicts) (r : Option Verdicts) →
    Elaborates names (subject names o i s x) (stands m) →
    ((u : Verdicts) → r ≡ Some u → ElaboratesAll names o (behind i s x) m.tables xs u) →
    in_front_of (recorded s x m.form) r ≡ Some w → ElaboratesAll names o i s (x ∷ xs) w
rest_goes names o i s x xs m w None here all h = absurd (cc)
rest_goes names o i s x xs m w (Some u) here all h =
    let e : in_front (recorded s x m.form) u ≡ w = cc in
    subst (λ v. ElaboratesAll names o i s (x ∷ xs) v) e (goes o i s x xs m u here (all u refl))

part_goes : (names : List (List ℕ)) (o i : StaticContext) (s : Tables) (x : Part) (xs : List Part) (w : Verdicts) (more : Standing → Option Verdicts) (r : Option Verdict) →
    ((v : Verdict) → r ≡ Some v → Elaborates names (subject names o i s x) v) →
    ((m : Standing) (u : Verdicts) → more m ≡ Some u → ElaboratesAll names o (behind i s x) m.tables xs u) →
    go_on (λ m. in_front_of (recorded s x m.form) (more m)) r ≡ Some w → ElaboratesAll names o i s (x ∷ xs) w
part_goes names o i s x xs w more None one all h = absurd (cc)
part_goes names o i s x xs w more (Some (ended e)) one all h =
    let same : one_ended e ≡ w = cc in
    subst (λ v. ElaboratesAll names o i s (x ∷ xs) v) same (stops o i s x xs e (one (ended e) refl))
part_goes names o i s x xs w more (Some (stands m)) one all h =
    rest_goes names o i s x xs m w (more m) (one (stands m) refl) (all m) h

mutual
  pub comes : (n : ℕ) (names : List (List ℕ)) (x : Node) (v : Verdict) → comes_to n names x ≡ Some v → Elaborates names x v
  comes zero names x v h = absurd (cc)
  comes (suc n) names (offends p r) v h =
      let e : ended (refused p r) ≡ v = cc in subst (λ u. Elaborates names (offends p r) u) e (offence p r)
  comes (suc n) names unnamed v h = absurd (cc)
  comes (suc n) names (steps a s d) v h = absurd (cc)
  comes (suc n) names (calls a s m d) v h = absurd (cc)
  comes (suc n) names (whole o i s xs m) v h =
      whole_comes names o i s xs m v (all_come_to n names o i s xs) (λ w e. all_come n names o i s xs w e) h

  all_come : (n : ℕ) (names : List (List ℕ)) (o i : StaticContext) (s : Tables) (xs : List Part) (w : Verdicts) → all_come_to n names o i s xs ≡ Some w → ElaboratesAll names o i s xs w
  all_come zero names o i s xs w h = absurd (cc)
  all_come (suc n) names o i s [] w h =
      let e : all_stand (record { found = []; tables = s }) ≡ w = cc in subst (λ u. ElaboratesAll names o i s [] u) e (ends o i s)
  all_come (suc n) names o i s (x ∷ xs) w h =
      part_goes names o i s x xs w (λ m. all_come_to n names o (behind i s x) m.tables xs) (comes_to n names (subject names o i s x))
      (λ v e. comes n names (subject names o i s x) v e)
      (λ m u e. all_come n names o (behind i s x) m.tables xs u e) h
