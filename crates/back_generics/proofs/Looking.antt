-- A routine that only looks is called where there is a turn: the site is as it was stored, whatever turns are to be left over.
use Rattle.std.proofs.Common.{◌≡◌, ℕ, suc, ◌+◌, ◌*◌, ◌<◌, ◌≤◌, List, [], length, refl, sym, ap, ◌∙◌, subst, ⊎_elim, arith}
use Rattle.std.proofs.lemmas.Bool.{cases_lt}
use Rattle.lang_meaning.specs.Prefixes.{IsPrefix}
use Rattle.lang_meaning.specs.State.{DynamicContext, Limit, words, unlimited}
use Rattle.lang_meaning.specs.State as meaning
use Rattle.lang_meaning.specs.Values.{nil}
use Rattle.flat_language.specs.FlatState.{FlatState, gives}
use Rattle.mid_code.specs.declared.operation.Counted.TheVariants.{Turn}
use Rattle.mid_code.specs.declared.program.MidProcedure.{MidProcedure}
use Rattle.mid_code.specs.Arena.{left}
use Rattle.mid_code.specs.Meaning.{Task, enter, turns, levels, count}
use Rattle.mid_code.specs.State.{MidState, MidOutcome, returns, ends, with_some}
use Rattle.mid_code.specs.Costs.{entry_cost}
use Rattle.mid_arena.proofs.Doing.{paid}
use Rattle.mid_arena.proofs.Leaving.{leaves_returned}
use Rattle.mid_arena.proofs.Running.{entered, enters, enters_wanting}
use Rattle.back_lowering.specs.ControlWords.{site_address}
use Rattle.back_relation.specs.Setting.{Setting}
use Rattle.back_relation.specs.Room.{looking_words, words_for_handler}
use Rattle.back_relation.specs.Worlds.{World, Standing}
use Rattle.back_relation.specs.Around.{CallBegins, SiteStored}
use Rattle.back_relation.specs.Ends.{WorldKept, Around, RoomEnded, Ends, done, stopped}
use Rattle.back_relation.specs.Forms.{code_at}
use Rattle.back_relation.specs.Procedures.{called}
use Rattle.back_relation.proofs.Growth.{same_prefix}
use Rattle.back_conditions.proofs.Entering.{same_word, looked_world, looked_back, with_frame_of, BodyLooks, frame_left}
use Rattle.back_conditions.proofs.Finding.{Used}

module _ (setting : Setting) (k t m : ℕ) (rs valid : List Standing) (w : World) (around : DynamicContext) (z : FlatState) (y : MidState) where
  -- a word is returned, and all but the cost is as it was
  pub record LookThere (most word : ℕ) (q : MidOutcome) : Type 0 where
    pub end : q.end ≡ returns word
    pub world : WorldKept setting w w z z y q.state
    pub back : Around setting most z z y q.state
    pub site : SiteStored setting around y → SiteStored setting around q.state

  abbrev pub LookEnds : (most word : ℕ) → MidOutcome → Type 0
  LookEnds most word q = Ends setting most (LookThere most word q) ⊥ m z y (gives nil z) q

  abbrev below : Task → MidState → MidOutcome
  below = levels setting.procedures setting.turns_each k

  pub looks_called :
      (room most number word : ℕ) (ws : List ℕ) (given : MidProcedure) (u : Used given setting.procedures number) → given.counted ≡ Turn → length ws ≡ given.parameters → given.frame ≤ looking_words → entry_cost given.parameters ≤ most
      → looking_words ≤ room
      → CallBegins setting rs valid room w around z y → ((frame : ℕ) → frame ≤ left y.arena → BodyLooks setting k t (with_frame_of frame given) ws word most y)
      → LookEnds most word (called (code_at setting k (suc t)) number ws y)
  unfolding turns with_some
  looks_called room most number word ws given u counts many frame_small cheap enough begins body = subst (λ q. LookEnds most word q) (sym entering) (⊎_elim without with_room (cases_lt (left y.arena) p.frame))
    where
      p : MidProcedure
      p = with_frame_of u.used.frame given

      small : p.frame ≤ room
      small = let most = frame_small in let within = u.within.frame in omega (arith, most, within, enough)

      entering : called (code_at setting k (suc t)) number ws y ≡ turns setting.procedures below (suc t) (enter p ws) y
      entering =
          ap (λ o. with_some o (λ q rs x. count (code_at setting k (suc t)) q.counted (enter q ws) x) [] y) u.found
          ∙ ap (λ (q : MidProcedure). count (code_at setting k (suc t)) q.counted (enter q ws) y) u.within.same
          ∙ ap (λ h. count (code_at setting k (suc t)) h (enter p ws) y) counts

      printed : IsPrefix y.printed z.state.printed
      printed = subst (λ ps. IsPrefix ps z.state.printed) (sym begins.things.represents.printed) (same_prefix z.state.printed)

      ended : left y.arena < p.frame → (l : Limit) → setting.limit ≡ l → RoomEnded setting l (meaning.value nil)
      ended few unlimited same = tt
      ended few (words n) same =
          frame_left setting.limit (room + words_for_handler * length around.handlers) p.frame z.state y (omega (arith, small)) begins.room begins.things.within_limit few n same

      without : left y.arena < p.frame → LookEnds most word (turns setting.procedures below (suc t) (enter p ws) y)
      without few =
          subst (λ q. LookEnds most word q) (sym (enters_wanting {procedures = setting.procedures} {below = below} {n = t} {p = p} {ws = ws} {z = y} many few).same)
          (stopped (record { because = (ended few setting.limit refl, few); printed = printed; paid = λ goes. omega (arith, cheap) }))

      looks : p.frame ≤ left y.arena → BodyLooks setting k t p ws word most y → LookEnds most word (turns setting.procedures below (suc t) (enter p ws) y)
      looks some b =
          subst (λ q. LookEnds most word q)
          (sym ((enters {p = p} {ws = ws} {z = y} many some b.runs).same ∙ leaves_returned y.arena.blocks (ends (returns word) b.registers (paid (entered p y) b.cost)) refl))
          (done (record {
            end = refl;
            world = looked_world setting begins.things p some b.cost;
            back = looked_back setting begins.things p some b.cost most b.within;
            site = λ s. (s.0, same_word setting begins.things p some b.cost site_address ∙ s.1, s.2);
          }))

      with_room : p.frame ≤ left y.arena → LookEnds most word (turns setting.procedures below (suc t) (enter p ws) y)
      with_room some = looks some (body u.used.frame some)
