-- What a fault of a statement is to whoever kept the store.
use Rattle.chan_io.specs.declared.failed.IoFault.{IoFault}
use Rattle.chan_io.specs.declared.failed.IoFault.TheVariants as IoFault
use Rattle.register_sql.specs.declared.fault.SqlFault.{SqlFault}
use Rattle.register_sql.specs.declared.fault.SqlFault.TheVariants.{Refused, NoMemory}

-- a refusal is a failed call
abbrev pub io_fault : SqlFault → IoFault
io_fault Refused = IoFault.Failed
io_fault NoMemory = IoFault.NoMemory
