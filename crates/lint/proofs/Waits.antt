-- Services that wait.
use Rattle.std.proofs.Common.{◌≡◌, Bool, true, false, not, ◌&&◌, ◌||◌, ap, ◌∙◌}

-- a service with a time-out waits unless that is 0
pub waits_by_time_out : (always timed zero is_zero : Bool) → false ≡ always → true ≡ timed → zero ≡ is_zero → not zero ≡ (always || (timed && not is_zero))
waits_by_time_out always timed zero is_zero fails holds same =
    ap not same ∙ ap (λ b. false || (b && not is_zero)) holds ∙ ap (λ b. b || (timed && not is_zero)) fails

-- the caller of a service with a time-out may wait unless that is 0
pub gives_way_by_time_out : (always ends timed zero is_zero : Bool) → false ≡ always → false ≡ ends → true ≡ timed → zero ≡ is_zero → not zero ≡ (always || ends || (timed && not is_zero))
gives_way_by_time_out always ends timed zero is_zero fails stays holds same =
    ap not same ∙ ap (λ b. false || false || (b && not is_zero)) holds ∙ ap (λ b. false || b || (timed && not is_zero)) stays ∙ ap (λ b. b || ends || (timed && not is_zero)) fails
