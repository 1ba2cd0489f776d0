-- **What is to be shown of main forms.** The record of the end of the program stands around each; a transfer to it ends the run.
use Rattle.std.specs.Prelude.{◌≡◌, ℕ, ◌+◌, ◌≤◌, [], Some, None, length, slice_get}
use Rattle.base.specs.declared.place.Place.{Place}
use Rattle.lang_meaning.specs.Meaning.{class_in}
use Rattle.lang_meaning.specs.State.{exit, value, at_site}
use Rattle.lang_meaning.specs.Values.{Value}
use Rattle.flat_language.specs.FlatForm.{FlatForm}
use Rattle.flat_language.specs.FlatMeaning.{mean_main}
use Rattle.flat_language.specs.FlatState.{FlatState, FlatEvaluated, charged}
use Rattle.mid_code.specs.State.{returns, unhandled, MidState, MidOutcome}
use Rattle.mid_arena.specs.Places.{word_of}
use Rattle.back_lowering.specs.ControlWords.{current_address, link_address, handlers_address, bindings_address, end_address}
use Rattle.back_lowering.specs.Program.{mains_from}
use Rattle.flat_ends.specs.Laws.{Safe}
use Rattle.back_relation.specs.Setting.{Setting}
use Rattle.back_relation.specs.Room.{main_reserve}
use Rattle.back_relation.specs.Worlds.{World}
use Rattle.back_relation.specs.StackWords.{HasWordAt}
use Rattle.back_relation.specs.Things.{Things, SiteIs}
use Rattle.back_relation.specs.Around.{RoomFor}
use Rattle.back_relation.specs.Ends.{PaidFrom, Ends, form_credit}
use Rattle.back_relation.specs.Forms.{code_at}
use Rattle.back_relation.specs.Procedures.{called}

-- what a main form costs beside the units of its form, the first of which pays for it too
abbrev pub main_credit : ℕ
main_credit = form_credit + 300

module _ (setting : Setting) where
  -- where a main form begins: nothing is around, and so many words of the stack are for more than what is charged
  pub record MainBegins (n : ℕ) (w : World) (z : FlatState) (y : MidState) : Type 0 where
    pub things : Things setting w z y
    pub current : (word : ℕ) × HasWordAt y current_address word
    pub link : (word : ℕ) × HasWordAt y link_address word
    pub end : (word : ℕ) × HasWordAt y end_address word
    pub no_handler : HasWordAt y handlers_address 0
    pub no_binding : HasWordAt y bindings_address 0
    pub end_form : slice_get w.exit_forms 0 ≡ Some None
    -- no function captured the exit of the end
    pub safe : Safe z
    pub room : RoomFor setting.limit n z.state y

  -- the form gave a value, and the next one may begin
  pub record MainReturned (n credit : ℕ) (z : FlatState) (y : MidState) (r : FlatEvaluated) (q : MidOutcome) : Type 0 where
    pub result : Value
    pub outcome : r.outcome ≡ value result
    pub word : ℕ
    pub end : q.end ≡ returns word
    pub w' : World
    pub of_value : word_of w'.places result ≡ Some word
    pub begins : MainBegins n w' r.state q.state
    pub blocks : q.state.arena.blocks ≡ y.arena.blocks
    pub same_size : length q.state.arena.memory ≡ length y.arena.memory
    pub frame : r.state.frame ≡ z.frame
    pub paid : PaidFrom credit z y r.state q.state

  -- a condition was not handled: the run ends with its class, its site and its word
  pub record Unhandled (credit : ℕ) (z : FlatState) (y : MidState) (r : FlatEvaluated) (q : MidOutcome) : Type 0 where
    pub condition : Value
    pub place : Place
    pub outcome : r.outcome ≡ exit 0 condition (at_site place)
    pub site : ℕ
    pub word : ℕ
    pub end : q.end ≡ unhandled (class_in r.state.state.store condition) site word
    pub site_is : SiteIs setting site place
    pub w' : World
    pub of_value : word_of w'.places condition ≡ Some word
    pub things : Things setting w' r.state q.state
    pub paid : PaidFrom credit z y r.state q.state

  -- **a main form**, by its number, with k levels and so many turns; the reserve is among the words that are for more than what is charged
  abbrev pub MainDoes : (k turns number : ℕ) → FlatForm → Type 0
  MainDoes k turns number f =
      (n : ℕ) (w : World) (z : FlatState) (y : MidState) → slice_get setting.program.main number ≡ Some f → main_reserve ≤ n → MainBegins n w z y
      → Ends setting main_credit
      (MainReturned n main_credit (charged 1 z) y (mean_main setting.names setting.program setting.limit k f z)
      (called (code_at setting k turns) (mains_from setting.names setting.at setting.program + number) [] y))
      (Unhandled main_credit (charged 1 z) y (mean_main setting.names setting.program setting.limit k f z)
      (called (code_at setting k turns) (mains_from setting.names setting.at setting.program + number) [] y))
      turns z y (mean_main setting.names setting.program setting.limit k f z)
      (called (code_at setting k turns) (mains_from setting.names setting.at setting.program + number) [] y)
