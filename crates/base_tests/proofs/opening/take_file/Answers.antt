-- Of the shelf is known what is known of the files that it was made of.
use Rattle.std.proofs.Common.{◌≡◌, ◌∙◌, sym, Bool, true, IfOk, Some, Ok, Err, List, Result, ℕ}
use Rattle.std.specs.Prelude.{Option}
use Rattle.base_tests.proofs.opening.take_file.Goals as goal

whole_file : {T E : Type 0} (items : T → List ℕ) {shelf_tells files_tell : Bool} {log file : Option (List ℕ)} (result : Result T E) → shelf_tells ≡ files_tell → log ≡ file
    → IfOk result (λ taken. shelf_tells ≡ true → log ≡ Some (items taken)) → IfOk result (λ taken. files_tell ≡ true → file ≡ Some (items taken))
whole_file items (Ok taken) tells same whole = λ told. sym same ∙ whole (tells ∙ told)
whole_file items (Err fault) tells same whole = tt

pub returns : goal.returns
returns g c = whole_file _ c.take_log.result c.new-shelf.ensures.tells (c.new-shelf.ensures.logs c.args.slot c.args.path.now) c.take_log.ensures.whole
