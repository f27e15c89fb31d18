-- Which limits are lawful: none is above the larger of what the broker allows a peer and what a peer allows the broker.
use Rattle.std.specs.Prelude.{ℕ, Bool, ◌&&◌, nat_le, max}
use Rattle.mj_base.specs.StandardLimits.{standard_limits, peer_limits}
use Rattle.mj_base.specs.declared.limits.Limits.{Limits}

abbrev pub is_within : (Limits → ℕ) → Limits → Bool
is_within field limits = nat_le (field limits) (max (field standard_limits) (field peer_limits))

abbrev pub are_lawful : Limits → Bool
are_lawful limits =
    is_within (λ l. l.frames) limits && (is_within (λ l. l.message) limits && (is_within (λ l. l.command) limits
    && (is_within (λ l. l.lanes) limits && (is_within (λ l. l.queued) limits && (is_within (λ l. l.queued_weight) limits
    && (is_within (λ l. l.tickets) limits && (is_within (λ l. l.file) limits && (is_within (λ l. l.out_pieces) limits
    && (is_within (λ l. l.out_octets) limits && (is_within (λ l. l.interval) limits && (is_within (λ l. l.lease) limits
    && is_within (λ l. l.busy_lease) limits)))))))))))
