-- How much a peer may ask of the broker, and the broker of a peer.
use Rattle.mj_base.specs.declared.limits.Limits.{Limits}

-- what the broker allows a peer
abbrev pub standard_limits : Limits
standard_limits = record {
  frames = 256;
  message = 1048576;
  command = 8192;
  lanes = 64;
  queued = 65536;
  queued_weight = 268435456;
  tickets = 65536;
  file = 4294967296;
  out_pieces = 4096;
  out_octets = 8388608;
  interval = 2500;
  lease = 7500;
  busy_lease = 60000;
}

-- what a peer allows the broker
abbrev pub peer_limits : Limits
peer_limits = record standard_limits { frames = 260; message = 1049600 }
