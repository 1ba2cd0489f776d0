-- The run of an expander on the machine.
use Rattle.std.specs.Prelude.{◌≡◌, [], true, false}
use Rattle.front_profile.specs.Expansions.{expander_words, expander_instructions}
use Rattle.rv_machine.specs.Run.{Ended, run_of}
use Rattle.rv_machine.specs.declared.image.Image.{Image}
use Rattle.top_expansion.specs.declared.expander_run.ExpanderRun.{ExpanderRun}

-- of the image of its program: in the words of its arena, with nothing to read, for at most its instructions
abbrev pub expander_run : Image → Ended
expander_run image = run_of image.words image.entry expander_words [] expander_instructions

-- it was run: this is how it ended, and whether it printed a byte
pub record HasRun (image : Image) (run : ExpanderRun) : Type 0 where
  pub ending : run.ending ≡ (expander_run image).ending
  pub state : run.machine.state ≡ (expander_run image).at.state
  pub silent : run.printed ≡ false → (expander_run image).at.printed ≡ []
  pub heard : run.printed ≡ true → (expander_run image).at.printed ≡ [] → ⊥
