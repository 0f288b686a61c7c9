-- What a function returns where a question gets a no.
use Rattle.std.proofs.Common.{◌≡◌, Some, Err, Option, Result, sym, ap, ◌∙◌}
use Rattle.board.specs.Questions.{answer, map_ok}

-- an exit by `?` with the fault y, which is f, the first question that gets a no
pub refused_by : {X F : Type 0} (r : Result X F) (y f : F) (o : Option F) (x : X) → r ≡ Err y → y ≡ f → o ≡ Some f → r ≡ answer o x
refused_by r y f o x p q e = p ∙ ap Err q ∙ ap (λ z. answer z x) (sym e)

-- the same of an answer that is looked at through a function
pub refused_through : {X Y F : Type 0} (g : X → Y) (r : Result X F) (y f : F) (o : Option F) (x : Y) → r ≡ Err y → y ≡ f → o ≡ Some f
    → map_ok g r ≡ answer o x
refused_through g r y f o x p q e = ap (map_ok g) (p ∙ ap Err q) ∙ ap (λ z. answer z x) (sym e)
