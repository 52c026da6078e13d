mod PickedRows
