-- How many operations a rack takes.
use Rattle.std.specs.Prelude.{◌<◌, ◌^◌, List, All}
use Rattle.channel_lane.specs.Lane.{LaneState}

-- fewer than 10^18 operations were issued: each lane will have answered each of them once
abbrev pub HasRoom : List LaneState → Type 0
HasRoom lanes = All (λ lane. lane.answers < 10 ^ 18) lanes
