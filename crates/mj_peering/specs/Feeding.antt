-- The requests that are still to come of a feed and its source.
use Rattle.std.specs.Prelude.{ℕ, List, [], Option}
use Rattle.mj_peering.specs.Requests.{to_come, unread}
use Rattle.mj_peering.specs.declared.feed.Feed.{Feed}

abbrev pub ahead : Feed → Option (List ℕ) → Option (List (List ℕ))
ahead feed left = to_come (record { cut = feed.cut; piece = [] }) (unread feed.buffer.items feed.at feed.len left)
