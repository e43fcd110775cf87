-- Calls that are made one after another.
use Rattle.std.proofs.Common.{suc, ◌≡◌, ◌∙◌, ap, sym, ℕ, Bool, true, false, List, [], ◌∷◌, ◌++◌, None, Some, Ok, Err, is_ok, replicate, append_assoc}
use Rattle.std.specs.Prelude.{Option, Result}
use Rattle.std.specs.Option.{option_map}
use Rattle.casebook_program.specs.SystemCalls.{MakesCalls, SystemCall, OpensFiles}

pub calls_then : (first second : List SystemCall) (a b c : Option (List SystemCall)) → MakesCalls first a b → MakesCalls second b c → MakesCalls (second ++ first) a c
calls_then first second None b c one two = two ∙ ap (λ known. option_map (λ before. second ++ before) known) one
calls_then first second (Some before) b c one two = two ∙ ap (λ known. option_map (λ more. second ++ more) known) one ∙ ap Some (sym (append_assoc second first before))

pub one_more_try : (path : List ℕ) (tries : ℕ) (a b c d : Option (List SystemCall)) → MakesCalls (replicate tries (OpensFiles path false)) a b → MakesCalls (OpensFiles path false ∷ []) b c → d ≡ c
    → MakesCalls (replicate (suc tries) (OpensFiles path false)) a d
one_more_try path tries a b c d tried one same = same ∙ calls_then (replicate tries (OpensFiles path false)) (OpensFiles path false ∷ []) a b c tried one
