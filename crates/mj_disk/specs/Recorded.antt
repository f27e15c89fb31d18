-- What a disk in memory has held.
use Rattle.mj_disk.specs.DiskModel.{History}
use Rattle.mj_disk.specs.Entries.{history_of}
use Rattle.mj_disk.specs.declared.memory.MemoryDisk.{MemoryDisk}

abbrev pub recorded : MemoryDisk → History
recorded disk = history_of disk.start.items disk.entries.items disk.kept.items
