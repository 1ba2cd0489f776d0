-- A run of the machine that has ended as code ends, in words of the meaning.
use Rattle.std.proofs.Common.{inl, inr, ◌≡◌, ◌⊎◌, ℕ, List, [], ◌∷◌, ◌++◌, length, refl, sym, ap, subst, ◌∙◌, arith, append-nil, length-append, Some}
use Rattle.base.specs.declared.place.Place.{Place}
use Rattle.lang_meaning.specs.Meaning.{End, ended_value, ended_unhandled, ended_full, ended_more}
use Rattle.lang_meaning.specs.Prefixes.{IsPrefix}
use Rattle.lang_meaning.specs.State.{Limit, words, unlimited}
use Rattle.lang_meaning.specs.Values.{Value}
use Rattle.rv_machine.specs.declared.ending.Ending.TheVariants.{Budget}
use Rattle.rv_machine.specs.Run.{Ended}
use Rattle.mid_code.specs.State as mid
use Rattle.mid_code.specs.State.{MidState}
use Rattle.back_relation.specs.Setting.{Setting}
use Rattle.back_relation.specs.Things.{SiteIs}
use Rattle.back_claims.specs.Program.{the_meaning, run, code_end, RunsOutFor, EndsAs as MeansEnd, IsReached, RunDoes}
use Rattle.back_runs.specs.Ends.{EndsAs}
use Rattle.back_meant.specs.Laws.{HaltsAs, UnhandledAs, EndsWell}

-- lists that are prefixes of one another
none_behind : (xs : List ℕ) → length xs ≡ 0 → xs ≡ []
none_behind [] e = refl
none_behind (x ∷ xs) e = absurd (omega (arith, e))

pub same_both : (a b : List ℕ) → IsPrefix a b → IsPrefix b a → a ≡ b
same_both a b p q =
    let n = ap length p.is in
    let m = ap length q.is in
    let none : length p.rest ≡ 0 = omega (arith, n, m, length-append a p.rest, length-append b q.rest) in
    sym (append-nil a) ∙ ap (λ r. a ++ r) (sym (none_behind p.rest none)) ∙ p.is

module _ (setting : Setting) (input : List ℕ) (k : ℕ) (y : MidState) (d : RunDoes setting input k y)
    (had_room : (asked left_then : ℕ) → (the_meaning setting input k y).end ≡ ended_full asked left_then → ⊥) (x : Ended) where
  abbrev q : MidState
  q = (run setting k y).state

  same_printed : (e : mid.End) → code_end setting input k y ≡ e → IsReached setting input k y e → x.at.printed ≡ q.printed → x.at.printed ≡ (the_meaning setting input k y).printed
  same_printed e h reached printed =
      printed ∙ same_both q.printed (the_meaning setting input k y).printed (d.printed had_room) (d.printed_all (subst (λ t. IsReached setting input k y t) (sym h) reached))

  -- a halt, and an end by a condition
  pub halt_as :
      (word : ℕ) (v : Value) → (the_meaning setting input k y).end ≡ ended_value v → code_end setting input k y ≡ mid.halts word → EndsAs (mid.halts word) q x
      → MeansEnd setting input k y (mid.halts word) (ended_value v) → HaltsAs setting input k y x word
  halt_as word v e c h m = record {
    result = v;
    end = e;
    world = m.0;
    state = q;
    things = m.1;
    of_value = m.2;
    leaves = h.1;
    printed = same_printed (mid.halts word) c tt h.1.printed;
  }

  pub unhandled_as :
      (class site word : ℕ) (v : Value) (place : Place) → (the_meaning setting input k y).end ≡ ended_unhandled v place
      → code_end setting input k y ≡ mid.unhandled class site word → EndsAs (mid.unhandled class site word) q x
      → MeansEnd setting input k y (mid.unhandled class site word) (ended_unhandled v place) → UnhandledAs setting input k y x class
  unhandled_as class site word v place e c h m = record {
    condition = v;
    place = place;
    end = e;
    class_is = m.0;
    site_is = subst (λ n. SiteIs setting n place) (sym h.2) m.1;
    world = m.2.0;
    state = q;
    things = m.2.1;
    of_condition = m.2.2 ∙ ap (λ n. Some n) (sym h.3);
    leaves = h.1;
    printed = same_printed (mid.unhandled class site word) c tt h.1.printed;
  }

  -- by the end of the meaning
  halted :
      (word : ℕ) (g : End) → (the_meaning setting input k y).end ≡ g → code_end setting input k y ≡ mid.halts word → EndsAs (mid.halts word) q x
      → MeansEnd setting input k y (mid.halts word) g → EndsWell setting input k y x
  halted word (ended_value v) e c h m = inl (word, h.0, halt_as word v e c h m)
  halted word (ended_unhandled v place) e c h m = absurd m
  halted word (ended_full asked left_then) e c h m = absurd (had_room asked left_then e)
  halted word ended_more e c h m = absurd m

  not_handled :
      (class site word : ℕ) (g : End) → (the_meaning setting input k y).end ≡ g → code_end setting input k y ≡ mid.unhandled class site word
      → EndsAs (mid.unhandled class site word) q x → MeansEnd setting input k y (mid.unhandled class site word) g → EndsWell setting input k y x
  not_handled class site word (ended_value v) e c h m = absurd m
  not_handled class site word (ended_unhandled v place) e c h m = inr (inl (class, h.0, unhandled_as class site word v place e c h m))
  not_handled class site word (ended_full asked left_then) e c h m = absurd (had_room asked left_then e)
  not_handled class site word ended_more e c h m = absurd m

  not_returned : (word : ℕ) (g : End) → (the_meaning setting input k y).end ≡ g → MeansEnd setting input k y (mid.returns word) g → ⊥
  not_returned word (ended_value v) e m = m
  not_returned word (ended_unhandled v place) e m = m
  not_returned word (ended_full asked left_then) e m = had_room asked left_then e
  not_returned word ended_more e m = m

  -- code that halts, returns or ends with a condition has not run out of anything
  runs_out_halts : (limit : Limit) (word : ℕ) → RunsOutFor setting input k y limit (mid.halts word) → ⊥
  runs_out_halts (words m) word h = h
  runs_out_halts unlimited word h = h

  runs_out_returns : (limit : Limit) (word : ℕ) → RunsOutFor setting input k y limit (mid.returns word) → ⊥
  runs_out_returns (words m) word h = h
  runs_out_returns unlimited word h = h

  runs_out_unhandled : (limit : Limit) (class site word : ℕ) → RunsOutFor setting input k y limit (mid.unhandled class site word) → ⊥
  runs_out_unhandled (words m) class site word h = h
  runs_out_unhandled unlimited class site word h = h

  -- the run has ended well, or waits where there is no serial number
  pub verdict :
      (e : mid.End) → code_end setting input k y ≡ e → EndsAs e q x
      → MeansEnd setting input k y e (the_meaning setting input k y).end ⊎ RunsOutFor setting input k y setting.limit e
      → (x.ending ≡ Budget) ⊎ EndsWell setting input k y x
  verdict (mid.halts word) c h (inl m) = inr (halted word (the_meaning setting input k y).end refl c h m)
  verdict (mid.halts word) c h (inr out) = absurd (runs_out_halts setting.limit word out)
  verdict (mid.returns word) c h (inl m) = absurd (not_returned word (the_meaning setting input k y).end refl m)
  verdict (mid.returns word) c h (inr out) = absurd (runs_out_returns setting.limit word out)
  verdict (mid.unhandled class site word) c h (inl m) = inr (not_handled class site word (the_meaning setting input k y).end refl c h m)
  verdict (mid.unhandled class site word) c h (inr out) = absurd (runs_out_unhandled setting.limit class site word out)
  verdict (mid.no_room asked left_then) c h m = inr (inr (inr (asked, left_then, h.0)))
  verdict mid.falls c h m = absurd h
  verdict (mid.cuts n word) c h m = absurd h
  verdict mid.no_level c h m = absurd h
  verdict mid.no_turn c h m = absurd h
  verdict mid.exhausted c h m = inl h.0
  verdict mid.stuck c h m = absurd h
