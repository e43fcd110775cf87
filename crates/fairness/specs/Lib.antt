-- What the public contracts cite is in audit_base, call_laws and short_order.

-- What private functions pass on.
pub mod Passing
